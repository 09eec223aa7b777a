-- An operation has less to go after each event of its own, and stays licensed.
use Rattle.std.proofs.Common.{◌≡◌, ◌⊎◌, inl, inr, ⊎_elim, ℕ, suc, ◌+◌, ◌-◌, ◌^◌, ◌<◌, ◌≤◌, nat_lt, Bool, true, false, List, ◌∷◌, ◌++◌, Option, Some, None, refl, sym, ◌∙◌, ap, subst, arith, if◌then◌else◌}
use Rattle.std.proofs.lemmas.Bool.{lt-ltb}
use Rattle.std.proofs.lemmas.List.{map-id}
use Rattle.std.specs.List.{AllByRecursion}
use Rattle.flit_words.specs.declared.layouts.Layout.{Layout}
use Rattle.flit_words.specs.declared.layouts.Kind.{Kind}
use Rattle.flit_words.specs.declared.layouts.Kind.TheVariants.{List as List_kind, Hash, Tree}
use Rattle.flit_model.specs.Effects.{after, answer}
use Rattle.flit_model.specs.States.{shadow_at}
use Rattle.flit_model.specs.Lists.{IsRisingFrom}
use Rattle.flit_model.specs.declared.events.Event.{Event}
use Rattle.flit_model.specs.declared.events.Event.TheVariants.{Persist}
use Rattle.flit_model.specs.declared.calls.Call.{Call}
use Rattle.flit_model.specs.declared.calls.Tally.{Tally}
use Rattle.flit_model.proofs.Rising.{rising_each}
use Rattle.flit_place.specs.Tags.{Place}
use Rattle.flit_pv.specs.Hands.{more}
use Rattle.flit_pv.specs.Tallies.{IsTally}
use Rattle.flit_pv.proofs.OneEvent.{tallies_within}
use Rattle.flit_structure.specs.declared.workers.Worker.{Worker}
use Rattle.flit_structure.specs.Moments.{Moment, with_workers, busy}
use Rattle.flit_structure.specs.Lawful.{GrowsTo, IsBelowTop, AreSearchesBounded, is_persist, excuses, events_of_try}
use Rattle.flit_crew.specs.Machines.{Machine, machine_asks, machine_takes, hand_in, has_ended}
use Rattle.flit_crew.specs.Anatomies.{Anatomy, gone_by, op_taken}
use Rattle.flit_crew.specs.Accounts.{IsPool}
use Rattle.flit_crew.specs.Crews.{Crew, Holds}
use Rattle.flit_crew.specs.CrewMeanings.{Bounds}
use Rattle.flit_crew.specs.Obligations.{Keeps}
use Rattle.flit_crew_bounds.specs.Left.{machine_left}
use Rattle.flit_crew_bounds.specs.Counting.{GoesOnWith, tally_of, KeepsCounts}
use Rattle.flit_crew_bounds.specs.Bounding.{Limits, OwnEvent, BeginsSearch, AreTriesKept, KeepsLimits, IsWithin, is_lost, view_of, view_at}
use Rattle.flit_crew_bounds.specs.BoundedMeanings.{bounds_by}
use Rattle.flit_crew_bounds.proofs.MachineHands.{Tallied, machine_tallied}
use Rattle.flit_crew_bounds.proofs.MachineFalls.{machine_falls}
use Rattle.flit_crew_bounds.proofs.Tallying.{op_counted}
use Rattle.flit_crew_bounds.proofs.Searching.{lost_counts, persist_ends_none}
use Rattle.flit_crew_bounds.proofs.OwnEvents.{few_inserts, own_event, before, behind, me, you, then_holds, known_then}

-- ---- numbers

-- by an event a try has one event more, or has just begun
try_events : (n : ℕ) (was now : Tally) → events_of_try n was now ≤ suc n
try_events n was now = by_test (nat_lt was.tries now.tries)
  where
    by_test : (b : Bool) → (if b then 0 else suc n) ≤ suc n
    by_test true = omega arith
    by_test false = omega arith

try_begins : (n : ℕ) (was now : Tally) → was.tries < now.tries → events_of_try n was now ≡ 0
try_begins n was now lt = ap (λ b. if b then 0 else suc n) (lt-ltb was.tries now.tries lt)

raised : (a b : ℕ) → b ≡ more a → b < 2 ^ 64 - 1 → b ≡ a + 1
raised a b e lt = omega (arith, e, lt)

-- where a tally has grown and isn't at its top, it wasn't
pub was_below : (e : Event) (was now : Tally) → GrowsTo e was now → IsBelowTop now → IsBelowTop was
was_below e was now g b = record {
  loads = under was.loads now.loads g.loads b.loads;
  omitted = under was.omitted now.omitted g.omitted b.omitted;
  queued = under was.queued now.queued g.queued b.queued;
  persists = written (is_persist e) was.persists now.persists g.persists b.persists;
  failed = under was.failed now.failed g.failed.least b.failed;
  helped = under was.helped now.helped g.helped.least b.helped;
  tries = under was.tries now.tries g.tries.least b.tries;
}
  where
    under : (a b : ℕ) → a ≤ b → b < 2 ^ 64 - 1 → a < 2 ^ 64 - 1
    under a b h i = omega (arith, h, i)

    written : (back : Bool) (a b : ℕ) → b ≡ (if back then more a else a) → b < 2 ^ 64 - 1 → a < 2 ^ 64 - 1
    written true a b e i = omega (arith, e, i)
    written false a b e i = omega (arith, e, i)

excuses_grow : (k : Kind) (e : Event) (was now : Tally) → GrowsTo e was now → excuses k was ≤ excuses k now
excuses_grow List_kind e was now g = g.failed.least
excuses_grow Hash e was now g = g.failed.least
excuses_grow Tree e was now g = both was.failed now.failed was.helped now.helped g.failed.least g.helped.least
  where
    both : (a b c d : ℕ) → a ≤ b → c ≤ d → a + c ≤ b + d
    both a b c d h i = omega (arith, h, i)

excuse_lost : (k : Kind) (v : Event) (was now : Tally) → GrowsTo v was now → now.failed ≡ was.failed + 1 → excuses k was + 1 ≤ excuses k now
excuse_lost List_kind v was now g e = omega (arith, e)
excuse_lost Hash v was now g e = omega (arith, e)
excuse_lost Tree v was now g e = both was.failed now.failed was.helped now.helped e g.helped.least
  where
    both : (a b c d : ℕ) → b ≡ a + 1 → c ≤ d → a + c + 1 ≤ b + d
    both a b c d h i = omega (arith, h, i)

excuse_helped : (k : Kind) (v : Event) (was now : Tally) → GrowsTo v was now → k ≡ Tree → now.helped ≡ was.helped + 1 →
    excuses k was + 1 ≤ excuses k now
excuse_helped k v was now g tree e = subst (λ x. excuses x was + 1 ≤ excuses x now) (sym tree) (both was.failed now.failed was.helped now.helped g.failed.least e)
  where
    both : (a b c d : ℕ) → a ≤ b → d ≡ c + 1 → a + c + 1 ≤ b + d
    both a b c d h i = omega (arith, h, i)

searches_same : (k : Kind) (e : Event) (start was now : Tally) → GrowsTo e was now → now.tries ≡ was.tries → AreSearchesBounded k start was →
    AreSearchesBounded k start now
searches_same k e start was now g same h =
    sum was.tries now.tries (excuses k start) start.tries (excuses k was) (excuses k now) same (excuses_grow k e was now g) h
  where
    sum : (t u x s a b : ℕ) → u ≡ t → a ≤ b → t + x ≤ s + a + 1 → u + x ≤ s + b + 1
    sum t u x s a b k i h = omega (arith, k, i, h)

searches_more : (k : Kind) (start was now : Tally) → now.tries ≡ was.tries + 1 → excuses k was + 1 ≤ excuses k now → AreSearchesBounded k start was →
    AreSearchesBounded k start now
searches_more k start was now one more h =
    sum was.tries now.tries (excuses k start) start.tries (excuses k was) (excuses k now) one more h
  where
    sum : (t u x s a b : ℕ) → u ≡ t + 1 → a + 1 ≤ b → t + x ≤ s + a + 1 → u + x ≤ s + b + 1
    sum t u x s a b e i h = omega (arith, e, i, h)

pub ones : (l : Layout) (free : List ℕ) → IsPool l free → AllByRecursion (λ row. 1 ≤ row) free
ones l free pool = rising_each (λ r. r) 1 free (subst (IsRisingFrom 1) (sym (map-id free)) pool.rising)

-- ---- an own event

module _ {G Op : Type 0} (c : Crew G Op) (l : Layout) (p : Place) (free : List ℕ) (limits : Limits Op) (keeps : Keeps c l p free)
    (counts : KeepsCounts c p free) (bounds : KeepsLimits c l p free limits) (M : Moment Op)
    (a : List (Worker Op)) (name number : ℕ) (op : Op) (call : Call) (begun : Option ℕ) (b : List (Worker Op)) (e : Event)
    (q : machine_asks p (c.anatomy.machine op) ≡ Some e)
    (holds : Holds c l p free (with_workers M (a ++ busy name number op call begun ∷ b))) where
  abbrev A : Anatomy Op
  A = c.anatomy

  abbrev B : Bounds Op
  B = bounds_by c l p free limits

  abbrev m : Machine
  m = machine_takes p free (A.machine op) (answer M.state e)

  abbrev next : Op
  next = op_taken A p free op (answer M.state e)

  own : OwnEvent c l p free M.state e (before c l p free B keeps M a name number op call begun b e q holds)
      (behind c l p free B keeps M a name number op call begun b e q holds) (me c l p free B keeps M a name number op call begun b e q holds)
      (you c l p free B keeps M a name number op call begun b e q holds) op
  own = own_event c l p free B keeps M a name number op call begun b e q holds

  fewer : machine_left m < machine_left (A.machine op)
  fewer = machine_falls p free (A.machine op) e (answer M.state e) (ones l free holds.pool) q

  put : A.machine (A.with_machine op m) ≡ m
  put = keeps.put op m (answer M.state e, refl)

  pub falls : machine_left (A.machine next) + limits.behind (after M.state e).words next < machine_left (A.machine op) + limits.behind M.state.words op
  falls = by_end (has_ended p m) refl
    where
      on : (x y z w : ℕ) → x < y → z ≤ w → x + z < y + w
      on x y z w h i = omega (arith, h, i)

      over : (x y z v w : ℕ) → x + z ≤ v + w → v < y → x + z < y + w
      over x y z v w h i = omega (arith, h, i)

      by_end : (t : Bool) → has_ended p m ≡ t →
          machine_left (A.machine (gone_by A t op m)) + limits.behind (after M.state e).words (gone_by A t op m)
          < machine_left (A.machine op) + limits.behind M.state.words op
      by_end true ended = over (machine_left (A.machine (A.resumed op m))) (machine_left (A.machine op))
          (limits.behind (after M.state e).words (A.resumed op m)) (machine_left m) (limits.behind M.state.words op)
          (bounds.resumes M.state e _ _ _ _ op own ended) fewer
      by_end false going = subst (λ x. machine_left x + limits.behind (after M.state e).words (A.with_machine op m)
          < machine_left (A.machine op) + limits.behind M.state.words op) (sym put)
          (on (machine_left m) (machine_left (A.machine op)) (limits.behind (after M.state e).words (A.with_machine op m)) (limits.behind M.state.words op)
          fewer (bounds.runs M.state e _ _ _ _ op own going))

  -- ---- searches

  tallied : Tallied (tally_of A op) (hand_in m).tally
  tallied = machine_tallied p free (A.machine op) (answer M.state e)

  -- a search begins by an event only where it ends an exchange
  pub begins_search : ((tally_of A next).tries ≡ (tally_of A op).tries) ⊎ ((has_ended p m ≡ true) × (next ≡ A.resumed op m)
      × BeginsSearch c l p free m (hand_in m).tally (tally_of A next))
  begins_search = by_end (has_ended p m) refl
    where
      by_end : (t : Bool) → has_ended p m ≡ t → ((tally_of A (gone_by A t op m)).tries ≡ (tally_of A op).tries)
          ⊎ ((has_ended p m ≡ true) × (gone_by A t op m ≡ A.resumed op m) × BeginsSearch c l p free m (hand_in m).tally (tally_of A (gone_by A t op m)))
      by_end true ended = ⊎_elim (λ same. inl (same ∙ tallied.tries)) (λ s. inr (ended, refl, s)) (bounds.searches M.state e _ _ _ _ op own ended)
      by_end false going = inl (ap (λ x. (hand_in x).tally.tries) put ∙ tallied.tries)

  pub licensed_searches : (start : Tally) → IsTally (tally_of A op) → (IsBelowTop (tally_of A op) → AreSearchesBounded l.kind start (tally_of A op)) →
      IsBelowTop (tally_of A next) → AreSearchesBounded l.kind start (tally_of A next)
  licensed_searches start t was below = ⊎_elim (λ same. searches_same l.kind e start (tally_of A op) (tally_of A next) grows same bounded)
      (λ s. one_more s.0 s.1 s.2)
      begins_search
    where
      grows : GrowsTo e (tally_of A op) (tally_of A next)
      grows = (op_counted c l p free keeps counts op e (answer M.state e) q t).grows

      bounded : AreSearchesBounded l.kind start (tally_of A op)
      bounded = was (was_below e (tally_of A op) (tally_of A next) grows below)

      one_more : has_ended p m ≡ true → next ≡ A.resumed op m → BeginsSearch c l p free m (hand_in m).tally (tally_of A next) →
          AreSearchesBounded l.kind start (tally_of A next)
      one_more ended is s = searches_more l.kind start (tally_of A op) (tally_of A next)
          (raised (tally_of A op).tries (tally_of A next).tries (s.tries ∙ ap more tallied.tries) below.tries) (excuse s.excuse) bounded
        where
          goes : GoesOnWith (hand_in m).tally (tally_of A (A.resumed op m))
          goes = counts.resumed op m (record { told = answer M.state e; is = refl; ended = ended })
              (tallies_within (tally_of A op) (hand_in m).tally t tallied.counts)

          failed_now : (tally_of A next).failed ≡ (hand_in m).tally.failed
          failed_now = ap (λ o. (tally_of A o).failed) is ∙ goes.failed

          excuse : (is_lost s.how ≡ true) ⊎ ((l.kind ≡ Tree) × ((tally_of A next).helped ≡ more (hand_in m).tally.helped)) →
              excuses l.kind (tally_of A op) + 1 ≤ excuses l.kind (tally_of A next)
          excuse (inl lost) = excuse_lost l.kind e (tally_of A op) (tally_of A next) grows (raised (tally_of A op).failed (tally_of A next).failed
              (failed_now ∙ ap (λ x. (hand_in x).tally.failed) s.is
              ∙ lost_counts p free (A.machine op) e (answer M.state e) s.exchange s.how q s.is s.ended lost) below.failed)
          excuse (inr helped) = excuse_helped l.kind e (tally_of A op) (tally_of A next) grows helped.0
              (raised (tally_of A op).helped (tally_of A next).helped (helped.1 ∙ ap more tallied.helped) below.helped)

  -- ---- the events of a try

  pub licensed_events : (o : Option ℕ) → AreTriesKept c l p free limits o → (n : ℕ) → IsBelowTop (tally_of A next) →
      IsWithin o (n + machine_left (A.machine op)) (limits.allowed (view_at M) op) →
      IsWithin o (events_of_try n (tally_of A op) (tally_of A next) + machine_left (A.machine next))
      (limits.allowed (view_of (behind c l p free B keeps M a name number op call begun b e q holds)) next)
  licensed_events None kept n below was = tt
  licensed_events (Some most) kept n below was = (
    by_end (has_ended p m) refl below,
    kept.within _ _ next (then_holds c l p free B keeps M a name number op call begun b e q holds).kept
        (few_inserts c l p free _ (then_holds c l p free B keeps M a name number op call begun b e q holds))
        (known_then c l p free B keeps M a name number op call begun b e q holds).knows,
  )
    where
      allowed_then : Op → ℕ
      allowed_then o = limits.allowed (view_of (behind c l p free B keeps M a name number op call begun b e q holds)) o

      on : (t n x y w v : ℕ) → t ≤ suc n → x < y → n + y ≤ w → w ≤ v → t + x ≤ v
      on t n x y w v h i j k = omega (arith, h, i, j, k)

      over : (t n x y z w v : ℕ) → t ≤ suc n → y < z → n + z ≤ w → x + w ≤ y + v → t + x ≤ v
      over t n x y z w v h i j k = omega (arith, h, i, j, k)

      anew : (t x v : ℕ) → t ≡ 0 → x ≤ v → t + x ≤ v
      anew t x v e h = omega (arith, e, h)

      risen : (a b : ℕ) → b ≡ a + 1 → a < b
      risen a b e = omega (arith, e)

      by_end : (t : Bool) → has_ended p m ≡ t → IsBelowTop (tally_of A (gone_by A t op m)) →
          events_of_try n (tally_of A op) (tally_of A (gone_by A t op m)) + machine_left (A.machine (gone_by A t op m)) ≤ allowed_then (gone_by A t op m)
      by_end true ended low = ⊎_elim
          (λ k. over (events_of_try n (tally_of A op) (tally_of A (A.resumed op m))) n (machine_left (A.machine (A.resumed op m))) (machine_left m)
          (machine_left (A.machine op)) (limits.allowed (view_at M) op) (allowed_then (A.resumed op m))
          (try_events n (tally_of A op) (tally_of A (A.resumed op m))) fewer was.0 k)
          (λ k. anew (events_of_try n (tally_of A op) (tally_of A (A.resumed op m))) (machine_left (A.machine (A.resumed op m))) (allowed_then (A.resumed op m))
          (try_begins n (tally_of A op) (tally_of A (A.resumed op m)) (risen (tally_of A op).tries (tally_of A (A.resumed op m)).tries
          (raised (tally_of A op).tries (tally_of A (A.resumed op m)).tries (k.1 ∙ ap more tallied.tries) low.tries))) k.0)
          (kept.resumes M.state e _ _ _ _ op own ended)
      by_end false going low = subst (λ x. events_of_try n (tally_of A op) (tally_of A (A.with_machine op m)) + machine_left x
          ≤ allowed_then (A.with_machine op m)) (sym put)
          (on (events_of_try n (tally_of A op) (tally_of A (A.with_machine op m))) n (machine_left m) (machine_left (A.machine op))
          (limits.allowed (view_at M) op) (allowed_then (A.with_machine op m))
          (try_events n (tally_of A op) (tally_of A (A.with_machine op m))) fewer was.0 (kept.runs M.state e _ _ _ _ op own going))

module _ {G Op : Type 0} (c : Crew G Op) (l : Layout) (p : Place) (free : List ℕ) (limits : Limits Op) (keeps : Keeps c l p free)
    (counts : KeepsCounts c p free) (bounds : KeepsLimits c l p free limits) (M : Moment Op)
    (a : List (Worker Op)) (name number : ℕ) (op : Op) (call : Call) (begun : Option ℕ) (b : List (Worker Op)) (word kept : ℕ)
    (q : machine_asks p (c.anatomy.machine op) ≡ Some (Persist word kept))
    (holds : Holds c l p free (with_workers M (a ++ busy name number op call begun ∷ b))) where
  -- by no write-back a search begins
  pub no_search : (tally_of c.anatomy (op_taken c.anatomy p free op (shadow_at M.state word))).tries ≡ (tally_of c.anatomy op).tries
  no_search = ⊎_elim (λ same. same) (λ s. absurd (ends_none s.2))
      (begins_search c l p free limits keeps counts bounds M a name number op call begun b (Persist word kept) q holds)
    where
      ends_none : BeginsSearch c l p free (machine_takes p free (c.anatomy.machine op) (shadow_at M.state word))
          (hand_in (machine_takes p free (c.anatomy.machine op) (shadow_at M.state word))).tally
          (tally_of c.anatomy (op_taken c.anatomy p free op (shadow_at M.state word))) → ⊥
      ends_none s = persist_ends_none p free (c.anatomy.machine op) word kept (shadow_at M.state word) s.exchange s.how q s.is s.ended
