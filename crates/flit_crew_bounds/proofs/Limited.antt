-- The laws that the bounds and the counts of a crew decide, each in the form that it has among all laws of a structure.
use Rattle.std.proofs.Common.{◌≡◌, ◌≢◌, ℕ, ◌+◌, ◌≤◌, List, ◌∷◌, ◌++◌, Option, Some, None, refl, ◌∙◌, ap, arith}
use Rattle.flit_words.specs.declared.layouts.Layout.{Layout}
use Rattle.flit_words.specs.declared.layouts.Kind.{Kind}
use Rattle.flit_words.specs.declared.layouts.Kind.TheVariants.{List as List_kind, Hash, Tree}
use Rattle.flit_model.specs.Effects.{answer}
use Rattle.flit_model.specs.declared.events.Event.{Event}
use Rattle.flit_model.specs.declared.calls.Call.{Call}
use Rattle.flit_model.specs.declared.calls.Tally.{Tally}
use Rattle.flit_place.specs.Tags.{Place}
use Rattle.flit_pv.specs.declared.hands.Hand.{Hand}
use Rattle.flit_pv.specs.Tallies.{IsTally}
use Rattle.flit_structure.specs.declared.workers.Worker.{Worker}
use Rattle.flit_structure.specs.Moments.{Moment, IsAmong, idle, busy, with_workers}
use Rattle.flit_structure.specs.Meanings.{Meaning, MayStart, Happens, beginning, tally, effect_by, moment_after}
use Rattle.flit_structure.specs.Lawful.{HoldsWith, AreSearchesBounded, IsTryBounded, IsBelowTop, IsCounted, excuses, next_one, events_of_try, Wrappable, BeginsWith, GrowsTo}
use Rattle.flit_structure.proofs.Names.{all_at}
use Rattle.flit_crew.specs.Heaps.{heap_of}
use Rattle.flit_crew.specs.Anatomies.{Anatomy, hand_at}
use Rattle.flit_crew.specs.Crews.{Crew, Holds, IsBusy, who_of}
use Rattle.flit_crew.specs.Obligations.{Keeps}
use Rattle.flit_crew.specs.Remaining.{KeepsBounds}
use Rattle.flit_crew.proofs.Acting.{Split}
use Rattle.flit_crew.proofs.Moving.{mine}
use Rattle.flit_crew.proofs.Happening.{happens}
use Rattle.flit_crew_bounds.specs.Left.{machine_left}
use Rattle.flit_crew_bounds.specs.Counting.{tally_of, AreCounting, KeepsCounts}
use Rattle.flit_crew_bounds.specs.Bounding.{Limits, AreTriesKept, KeepsLimits, IsWithin, view_at}
use Rattle.flit_crew_bounds.specs.BoundedMeanings.{bounds_by, bounded_meaning}
use Rattle.flit_crew_bounds.proofs.MachineFalls.{asks_some}
use Rattle.flit_crew_bounds.proofs.Tallying.{op_counted, started_begins, counts_kept}
use Rattle.flit_crew_bounds.proofs.Sparing.{spares}
use Rattle.flit_crew_bounds.proofs.Bounded.{falls, licensed_searches, licensed_events, no_search, was_below}
use Rattle.flit_crew_bounds.proofs.OwnEvents.{few_inserts}
use Rattle.flit_crew_bounds.proofs.Others.{among_then, all_pass, Placed, placed, still_within}

-- ---- what being licensed says

means_events : (o : Option ℕ) (n left allowed : ℕ) (asked : Option Event) → next_one asked ≤ left → IsWithin o (n + left) allowed → IsTryBounded o n asked
means_events None n left allowed asked some k = tt
means_events (Some most) n left allowed asked some k = through n (next_one asked) left allowed most some k.0 k.1
  where
    through : (n a b c d : ℕ) → a ≤ b → n + b ≤ c → c ≤ d → n + a ≤ d
    through n a b c d h i j = omega (arith, h, i, j)

begins_bounded : (k : Kind) (start now : Tally) → IsCounted start.tries now.tries → now ≡ record start { tries = now.tries } → AreSearchesBounded k start now
begins_bounded k start now one same = sum start.tries now.tries (excuses k start) (excuses k now) one.most
    (ap (excuses k) same ∙ excuse_same k start now.tries)
  where
    excuse_same : (k : Kind) (t : Tally) (n : ℕ) → excuses k (record t { tries = n }) ≡ excuses k t
    excuse_same List_kind t n = refl
    excuse_same Hash t n = refl
    excuse_same Tree t n = refl

    sum : (s t x y : ℕ) → t ≤ s + 1 → y ≡ x → t + x ≤ s + y + 1
    sum s t x y h e = omega (arith, h, e)

module _ {G Op : Type 0} (c : Crew G Op) (l : Layout) (p : Place) (free : List ℕ) (limits : Limits Op) (keeps : Keeps c l p free)
    (counts : KeepsCounts c p free) (bounds : KeepsLimits c l p free limits) where
  abbrev A : Anatomy Op
  A = c.anatomy

  abbrev meaning : Meaning Op
  meaning = bounded_meaning c l p free limits

  abbrev HoldsAt : Moment Op → List (Worker Op) → Worker Op → List (Worker Op) → Type 0
  HoldsAt M a u b = HoldsWith meaning M a u b

  abbrev IsCounting : Worker Op → Type 0
  IsCounting u = IsTally (hand_at A u.doing).tally

  counting : (M : Moment Op) (a : List (Worker Op)) (u : Worker Op) (b : List (Worker Op)) → HoldsAt M a u b → IsCounting u
  counting M a u b h = all_at IsCounting a b u h.1

  pub tally_first : (M : Moment Op) (a : List (Worker Op)) (name number : ℕ) (hand : Hand) (call : Call) (b : List (Worker Op)) →
      MayStart l hand call → HoldsAt M a (idle name number hand) b →
      BeginsWith hand.tally (tally meaning (meaning.begun hand call))
  tally_first M a name number hand call b may h =
      let t = counting M a (idle name number hand) b h in
      started_begins hand.tally (tally_of A (A.begun hand call)) t (counts.begun hand call t)

  pub tallies : (M : Moment Op) (a : List (Worker Op)) (name number : ℕ) (op : Op) (call : Call) (begun : Option ℕ) (b : List (Worker Op)) (e : Event) →
      meaning.asked op ≡ Some e → HoldsAt M a (busy name number op call begun) b →
      GrowsTo e (tally meaning op) (tally meaning (meaning.taken op (answer M.state e)))
  tallies M a name number op call begun b e q h =
      (op_counted c l p free keeps counts op e (answer M.state e) q (counting M a (busy name number op call begun) b h)).grows

  pub licensed_first : (M : Moment Op) (a : List (Worker Op)) (name number : ℕ) (hand : Hand) (call : Call) (b : List (Worker Op)) →
      MayStart l hand call → HoldsAt M a (idle name number hand) b →
      meaning.licensed (with_workers M (a ++ busy name (number + 1) (meaning.begun hand call) call None ∷ b)) (meaning.begun hand call) hand.tally 0
  licensed_first M a name number hand call b may h = record {
    searches = λ below. begins_bounded l.kind hand.tally (tally_of A (A.begun hand call)) begins.tries begins.same;
    events = λ below. events limits.bound bounds.tries;
  }
    where
      begins : BeginsWith hand.tally (tally_of A (A.begun hand call))
      begins = tally_first M a name number hand call b may h

      N : Moment Op
      N = with_workers M (a ++ busy name (number + 1) (A.begun hand call) call None ∷ b)

      then_holds : Holds c l p free N
      then_holds = happens c l p free (bounds_by c l p free limits) keeps (Some name) (with_workers M (a ++ idle name number hand ∷ b)) N
          (beginning M a name number hand call b may) h.0

      is : Split c l p free (heap_of N then_holds.given then_holds.ghost) a (busy name (number + 1) (A.begun hand call) call None) b then_holds.actors
      is = mine c l p free keeps N a (busy name (number + 1) (A.begun hand call) call None) b then_holds

      known : IsBusy c l p free (heap_of N then_holds.given then_holds.ghost) is.actor name (number + 1) (A.begun hand call) call None
      known = is.mine.doing

      events : (o : Option ℕ) → AreTriesKept c l p free limits o →
          IsWithin o (0 + machine_left (A.machine (A.begun hand call))) (limits.allowed (view_at N) (A.begun hand call))
      events None kept = tt
      events (Some most) kept = (
        zero_first (machine_left (A.machine (A.begun hand call))) (limits.allowed (view_at N) (A.begun hand call))
            (kept.begins (heap_of N then_holds.given then_holds.ghost) (who_of name (number + 1) call None is.actor) hand then_holds.kept may.served
            ((mine c l p free keeps M a (idle name number hand) b h.0).mine.doing).1 known.knows),
        kept.within (heap_of N then_holds.given then_holds.ghost) (who_of name (number + 1) call None is.actor) (A.begun hand call) then_holds.kept
            (few_inserts c l p free N then_holds) known.knows,
      )
        where
          zero_first : (x y : ℕ) → x ≤ y → 0 + x ≤ y
          zero_first x y h = omega (arith, h)

  pub licensed_own : (M : Moment Op) (a : List (Worker Op)) (name number : ℕ) (op : Op) (call : Call) (begun : Option ℕ) (b : List (Worker Op)) (e : Event)
      (start : Tally) (n : ℕ) →
      meaning.asked op ≡ Some e → HoldsAt M a (busy name number op call begun) b →
      meaning.licensed (with_workers M (a ++ busy name number op call begun ∷ b)) op start n →
      let next = meaning.taken op (answer M.state e) in
      meaning.licensed (moment_after meaning M e a (busy name number op call begun) b) next start
      (events_of_try n (tally meaning op) (tally meaning next))
  licensed_own M a name number op call begun b e start n q h k =
      let t = counting M a (busy name number op call begun) b h in
      let grows = (op_counted c l p free keeps counts op e (answer M.state e) q t).grows in
      record {
        searches = licensed_searches c l p free limits keeps counts bounds M a name number op call begun b e q h.0 start t k.searches;
        events = λ below. licensed_events c l p free limits keeps counts bounds M a name number op call begun b e q h.0 limits.bound bounds.tries n below
            (k.events (was_below e (tally_of A op) (tally_of A (meaning.taken op (answer M.state e))) grows below));
      }

  pub licensed_kept : (M N : Moment Op) (who : Option ℕ) (name number : ℕ) (op : Op) (call : Call) (begun : Option ℕ) (start : Tally) (n : ℕ) →
      Happens meaning who M N → who ≢ Some name → IsAmong M.workers (busy name number op call begun) →
      meaning.holds M → meaning.licensed M op start n → meaning.licensed N op start n
  licensed_kept M N who name number op call begun start n happening other among h k =
      let B = bounds_by c l p free limits in
      let was : Placed c l p free B keeps name number op call begun M = placed c l p free B keeps name number op call begun M among h.0 in
      let is : Placed c l p free B keeps name number op call begun N = placed c l p free B keeps name number op call begun N
      (among_then (busy name number op call begun) meaning who M N happening other among) (happens c l p free B keeps who M N happening h.0) in
      record {
        searches = k.searches;
        events = λ below. still_within c l p free B keeps name number op call begun limits limits.bound bounds.tries M N was is
            (all_pass c l p free B keeps who M N happening h.0) (n + machine_left (A.machine op)) (k.events below);
      }

  pub licensed_means : (M : Moment Op) (op : Op) (start : Tally) (n : ℕ) →
      meaning.licensed M op start n → IsBelowTop (tally meaning op) →
      AreSearchesBounded l.kind start (tally meaning op) × IsTryBounded limits.bound n (meaning.asked op)
  licensed_means M op start n k below = (
    k.searches below,
    means_events limits.bound n (machine_left (A.machine op)) (limits.allowed (view_at M) op) (meaning.asked op) (some (meaning.asked op) refl)
        (k.events below),
  )
    where
      some : (o : Option Event) → meaning.asked op ≡ o → next_one o ≤ machine_left (A.machine op)
      some None q = least (machine_left (A.machine op))
        where
          least : (x : ℕ) → 0 ≤ x
          least x = omega arith
      some (Some e) q = asks_some p (A.machine op) e q

  -- the laws of the bounds, together
  pub bounds_kept : KeepsBounds meaning
  bounds_kept = record {
    falls = λ M a name number op call begun b e q h. falls c l p free limits keeps counts bounds M a name number op call begun b e q h.0;
    spare = λ M a name number op call begun b e q h. spares c l p free keeps counts M a name number op call begun b h.0 e
        (effect_by meaning (busy name number op call begun)) q;
    tally_first = tally_first;
    tallies = tallies;
    licensed_first = licensed_first;
    licensed_own = licensed_own;
    licensed_kept = licensed_kept;
    licensed_means = licensed_means;
  }

  -- what a structure around this one needs
  pub wraps : Wrappable meaning
  wraps = record {
    stays = λ m op word kept. refl;
    searches = λ M a name number op call begun b word kept q h.
        no_search c l p free limits keeps counts bounds M a name number op call begun b word kept q h.0;
  }

  -- whatever happens keeps what holds besides
  pub besides_kept : (who : Option ℕ) (M N : Moment Op) → Happens meaning who M N → AreCounting A M.workers → AreCounting A N.workers
  besides_kept who M N happening h = counts_kept c l p free keeps counts (bounds_by c l p free limits) who M N happening h
