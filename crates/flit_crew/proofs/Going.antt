-- A call that is about to go on: what is known of it, its machine and its tags; and what is to be shown of an event that
-- leaves the heap as it was.
use Rattle.std.proofs.Common.{◌≡◌, inl, inr, ⊎_elim, ℕ, suc, ◌+◌, ◌<◌, ◌≤◌, ◌&&◌, not, Bool, true, false, List, [], ◌∷◌, ◌++◌, length, count_by, Option, Some, None, is_none, refl, sym, ◌∙◌, ap, subst, if◌then◌else◌, arith}
use Rattle.std.specs.List.{AllByRecursion}
use Rattle.flit_words.specs.declared.layouts.Layout.{Layout}
use Rattle.flit_words.specs.Layouts.{words_of}
use Rattle.flit_words.specs.Words.{is_tagged, bare_of}
use Rattle.flit_model.specs.States.{State, word_at, count_at}
use Rattle.flit_model.proofs.Elements.{all_weaker}
use Rattle.flit_model.specs.Effects.{after, answer}
use Rattle.flit_model.specs.declared.events.Event.{Event}
use Rattle.flit_model.specs.declared.calls.Call.{Call}
use Rattle.flit_place.specs.Tags.{Place}
use Rattle.flit_pv.specs.declared.hands.Hand.{Hand}
use Rattle.flit_pv.specs.Confirms.{HeldConfirm}
use Rattle.flit_pv.specs.declared.confirms.Confirming.{Confirming}
use Rattle.flit_pv.specs.declared.confirms.Confirming.TheVariants.{Begins, MakesRoom, Done}
use Rattle.flit_pv.specs.Confirms.{confirm_leaves}
use Rattle.flit_pv.specs.Hands.{with_queued, with_omitted}
use Rattle.flit_runs.specs.Workings as run
use Rattle.flit_runs.specs.Workings.{Working, Idles, Loads, VLoads, Confirms, Exchanges, VExchanges, Stores, Fences, Completes, Evicts, leaves, confirms, goes_for}
use Rattle.flit_runs.specs.Worlds.{Actor, world_of, writings, Seen, Sees, gone_on as actor_gone, event}
use Rattle.flit_place.specs.Covers.{holds_up}
use Rattle.flit_runs.specs.Soundness.{IsSound, IsPWord}
use Rattle.flit_runs.proofs.Turns.{sound-turn, safe, holds as run_holds}
use Rattle.std.proofs.lemmas.Bool.{cases_lt}
use Rattle.std.proofs.lemmas.List.{get_or_past, length-append}
use Rattle.flit_runs.proofs.ExchangeSteps.{around}
use Rattle.flit_structure.specs.declared.workers.Worker.{Worker}
use Rattle.flit_structure.specs.Moments.{Moment, with_workers, busy}
use Rattle.flit_structure.specs.Meanings.{first_at}
use Rattle.flit_structure.proofs.Names.{all_both}
use Rattle.flit_crew.specs.Machines.{Machine, Works, Takes, Tags, SeesNoTag, Fresh, working_in, hand_of, has_ended, is_complete, reads_for}
use Rattle.flit_crew.specs.Heaps.{Heap, heap_of, IsOpen, IsHidden, IsMine}
use Rattle.flit_crew.specs.Anatomies.{own, deed}
use Rattle.flit_crew.specs.Accounts.{IsAny, HasUpdate, Rows, History}
use Rattle.flit_crew.specs.Crews.{Crew, Who, AllAct, Holds, IsBusy, IsAlone, Facts, who_of, stranger_of}
use Rattle.flit_crew.specs.Obligations.{Keeps, IsAfter}
use Rattle.flit_crew.proofs.Tagging.{TagsGo, tags_event}
use Rattle.flit_crew.proofs.Alone.{alone_event, alone_sees, unwritten_tags}
use Rattle.flit_crew.proofs.Knowing.{facts_more}
use Rattle.flit_crew.proofs.Acting.{Split, hidden_of}
use Rattle.flit_crew.proofs.Counting.{workers_few, names_within}
use Rattle.flit_crew.proofs.Moving.{h, mine, is_sound}
use Rattle.flit_crew.proofs.Arriving.{IsSame}

is_none_so : (o : Option Event) → is_none o ≡ true → o ≡ None
is_none_so None e = refl
is_none_so (Some x) e = absurd (cc)

and_left : (x y : Bool) → (x && y) ≡ true → x ≡ true
and_left true y e = refl
and_left false y e = e

pub ended_asks : (p : Place) (m : Machine) → has_ended p m ≡ true → run.asks p (working_in m) ≡ None
ended_asks p (Works w) e = is_none_so (run.asks p w) (and_left (is_none (run.asks p w)) (not (is_complete w)) e)
ended_asks p (Takes m) e = refl

confirm_hand : (hand : Hand) (w raw : ℕ) (t : Bool) → IsSame hand (if t then with_queued hand w raw else with_omitted hand)
confirm_hand hand w raw true = record { name = refl; number = refl; ticket = refl }
confirm_hand hand w raw false = record { name = refl; number = refl; ticket = refl }

abbrev same : (h : Hand) → IsSame h h
same h = record { name = refl; number = refl; ticket = refl }

confirm_keeps : (at : Confirming) (m : HeldConfirm) → IsSame m.hand (confirm_leaves at m)
confirm_keeps Begins m = confirm_hand m.hand m.word m.raw (is_tagged m.raw)
confirm_keeps (MakesRoom first) m = same m.hand
confirm_keeps Done m = same m.hand

pub leaves_same : (w : Working) → IsSame (hand_of w) (leaves w)
leaves_same (Idles hand) = same hand
leaves_same (Loads m) = same m.hand
leaves_same (VLoads m) = same m.hand
leaves_same (Confirms m) = confirm_keeps m.at m
leaves_same (Exchanges m) = same m.hand
leaves_same (VExchanges m) = same m.hand
leaves_same (Stores m) = same m.hand
leaves_same (Fences m) = same m.hand
leaves_same (Completes m) = same m.fence.hand
leaves_same (Evicts m) = same m.hand

module _ {G Op : Type 0} (c : Crew G Op) (l : Layout) (p : Place) (free : List ℕ) where
  pub alone_same : (g y : Actor) → y.at ≡ g.at → y.seen ≡ g.seen → IsAlone c l p free g → IsAlone c l p free y
  alone_same g y at seen k = record {
    machine = subst (SeesNoTag p) (sym at) k.machine;
    queued = ap (λ x. (hand_of x).tally.queued) at ∙ k.queued;
    seen = λ counted. subst (AllByRecursion (λ x. is_tagged x.raw ≡ false)) (sym seen) (k.seen counted);
  }

  pub all_hidden : (k : Heap G) (us : List (Worker Op)) (gs : List Actor) → AllAct c l p free k us gs →
      AllByRecursion (λ o. AllByRecursion (IsHidden l free k) o.private) gs
  all_hidden k [] [] m = tt
  all_hidden k [] (g ∷ gs) m = absurd m
  all_hidden k (u ∷ us) [] m = absurd m
  all_hidden k (u ∷ us) (g ∷ gs) m = (hidden_of c l p free k u g m.0, all_hidden k us gs m.1)

  module _ (keeps : Keeps c l p free) (M : Moment Op) (a : List (Worker Op)) (name number : ℕ) (op : Op) (call : Call) (begun : Option ℕ) (b : List (Worker Op))
      (holds : Holds c l p free (with_workers M (a ++ busy name number op call begun ∷ b)))
      -- as many updates were settled just before the event
      (k : ℕ) (settled : k ≤ length M.progress.settled) where
    abbrev pub u : Worker Op
    u = busy name number op call begun

    abbrev pub heap : Heap G
    heap = h c l p free keeps M a u b holds

    abbrev pub r : Split c l p free heap a u b holds.actors
    r = mine c l p free keeps M a u b holds

    -- those before it in the world
    abbrev pub front : List Actor
    front = stranger_of holds.stranger ∷ r.before

    pub sound_now : IsSound p (λ word. false) (world_of M.state front r.actor r.behind)
    sound_now = is_sound c l p free keeps M a u b holds

    abbrev pub now : Option ℕ
    now = Some (first_at k begun)

    abbrev pub me_now : Actor → Who
    me_now g = who_of name number call now g

    pub busy_now : IsBusy c l p free heap r.actor name number op call begun
    busy_now = r.mine.doing

    pub since : first_at k begun ≤ length M.progress.settled
    since = by_begun begun busy_now.first
      where
        by_begun : (o : Option ℕ) → first_at 0 o ≤ length M.progress.settled → first_at k o ≤ length M.progress.settled
        by_begun None le = settled
        by_begun (Some n) le = le

    -- what it knows as of its event, be it the call's first
    pub knows_now : c.knows heap (me_now r.actor) op
    knows_now = by_begun begun refl busy_now.waits busy_now.knows
      where
        by_begun : (o : Option ℕ) → o ≡ begun → (o ≡ None → (hand : Hand) × (op ≡ c.anatomy.begun hand call) × (r.actor.private ≡ [])) →
            c.knows heap (who_of name number call o r.actor) op → c.knows heap (who_of name number call (Some (first_at k o)) r.actor) op
        by_begun None same waits knows =
            let x = waits refl in
            subst (λ y. c.knows heap (who_of name number call (Some k) r.actor) y) (sym x.1)
            (keeps.begins heap (who_of name number call (Some k) r.actor) x.0 holds.kept busy_now.served settled x.2)
        by_begun (Some n) same waits knows = knows

    -- what is true of its machine, as of then
    pub facts_now : Facts c l p free heap (me_now r.actor) op (c.anatomy.machine op)
    facts_now = facts_more c l p free heap (who_of name number call begun r.actor) (me_now r.actor) op refl (λ w v n. n) (c.anatomy.machine op) busy_now.facts

    -- and where its update is as of then
    pub update_now : HasUpdate heap name number call (first_at k begun) (deed c.anatomy op)
    update_now = by_begun begun busy_now.waits busy_now.update
      where
        by_begun : (o : Option ℕ) → (o ≡ None → (hand : Hand) × (op ≡ c.anatomy.begun hand call) × (r.actor.private ≡ [])) →
            HasUpdate heap name number call (first_at 0 o) (deed c.anatomy op) → HasUpdate heap name number call (first_at k o) (deed c.anatomy op)
        by_begun None waits update =
            let x = waits refl in
            let fresh : deed c.anatomy op ≡ Fresh = ap (deed c.anatomy) x.1 ∙ keeps.begun_deed x.0 call in
            subst (HasUpdate heap name number call k) (sym fresh) (subst (HasUpdate heap name number call 0) fresh update)
        by_begun (Some n) waits update = update

    -- the world after its event
    pub turned : (e : Event) (news : List Seen) → run.asks p r.actor.at ≡ Some e →
        AllByRecursion (Sees (λ word. false) M.state (front ++ r.actor ∷ r.behind) r.actor.at) news →
        IsSound p (λ word. false) (world_of (after M.state e) front (actor_gone p M.state e news r.actor) r.behind)
    turned e news asked sees = sound-turn p (λ word. false) (world_of M.state front r.actor r.behind)
        (world_of (after M.state e) front (actor_gone p M.state e news r.actor) r.behind)
        (event M.state front r.actor r.behind e news asked sees) sound_now

    -- the tags after its event
    pub tags_now : (e : Event) → run.asks p r.actor.at ≡ Some e → TagsGo p M.state (after M.state e) r.actor.at (run.takes p r.actor.at (answer M.state e))
    tags_now e asked =
        let mine_safe = safe p (λ word. false) M.state front r.actor r.behind sound_now in
        tags_event p M.state sound_now.suits.slots r.actor.private
        (all_weaker (IsPWord (λ x. false) M.state) (λ w. w < length M.state.words) (λ w k. k.0) r.actor.private mine_safe.plain)
        (around (writings front) (run.writing_at r.actor.at) (writings r.behind)) r.actor.at mine_safe.knows e asked

    -- where it is the only one no tag shows
    only_one : l.workers ≡ 1 → (r.before ≡ []) × (r.behind ≡ [])
    only_one one =
        let few : length (a ++ u ∷ b) ≤ l.workers = workers_few l.workers (a ++ u ∷ b) holds.different (names_within c l p free heap (a ++ u ∷ b) holds.actors
        holds.acts) in
        let e = nobody_else a b u (subst (λ n. length (a ++ u ∷ b) ≤ n) one few) in
        (no_actors heap a r.before r.left e.0, no_actors heap b r.behind r.right e.1)
      where
        no_actors : (h : Heap G) (us : List (Worker Op)) (gs : List Actor) → AllAct c l p free h us gs → us ≡ [] → gs ≡ []
        no_actors h [] [] k e = refl
        no_actors h [] (g ∷ gs) k e = absurd k
        no_actors h (v ∷ us) gs k e = absurd (clash v us e)
          where
            clash : (v : Worker Op) (us : List (Worker Op)) → v ∷ us ≡ [] → ⊥
            clash v us e = cc

        nobody_else : (a b : List (Worker Op)) (u : Worker Op) → length (a ++ u ∷ b) ≤ 1 → (a ≡ []) × (b ≡ [])
        nobody_else [] [] u le = (refl, refl)
        nobody_else [] (x ∷ b) u le = absurd (more (length b) le)
          where
            more : (n : ℕ) → suc (suc n) ≤ 1 → ⊥
            more n i = omega (arith, i)
        nobody_else (x ∷ a) b u le = absurd (more (length a) (length b) (length (a ++ u ∷ b)) (length-append a (u ∷ b)) le)
          where
            more : (m n k : ℕ) → k ≡ m + suc n → suc k ≤ 1 → ⊥
            more m n k e i = omega (arith, e, i)

    none_written : l.workers ≡ 1 → run.writing_at r.actor.at ≡ None → around (writings front) (run.writing_at r.actor.at) (writings r.behind) ≡ []
    none_written one none = ap (λ w. around (writings front) w (writings r.behind)) none
        ∙ ap (λ xs. around (writings (stranger_of holds.stranger ∷ xs)) None (writings r.behind)) (only_one one).0
        ∙ ap (λ ys. around [] None (writings ys)) (only_one one).1

    no_count : l.workers ≡ 1 → run.writing_at r.actor.at ≡ None → (slot : ℕ) → count_at M.state slot ≡ 0
    no_count one none slot = ⊎_elim
        (λ below. (run_holds p (λ word. false) M.state front r.actor r.behind sound_now).covers.counts slot below
        ∙ ap (count_by (holds_up p.slot slot)) (none_written one none))
        (λ le. get_or_past M.state.slots slot 0 le) (cases_lt slot (length M.state.slots))

    no_tag : l.workers ≡ 1 → run.writing_at r.actor.at ≡ None → p.counted ≡ false → (v : ℕ) → is_tagged (word_at M.state v) ≡ false
    no_tag one none counted v = by_test (is_tagged (word_at M.state v)) refl
      where
        mine_alone : (gs hs : List Actor) → gs ≡ [] → hs ≡ [] → IsAny (λ g. Tags v (bare_of (word_at M.state v)) g.at) (gs ++ r.actor ∷ hs) →
            Tags v (bare_of (word_at M.state v)) r.actor.at
        mine_alone [] [] e d (inl k) = k
        mine_alone [] [] e d (inr k) = absurd k
        mine_alone [] (x ∷ hs) e d k = absurd (cc)
        mine_alone (x ∷ gs) hs e d k = absurd (cc)

        by_test : (t : Bool) → is_tagged (word_at M.state v) ≡ t → is_tagged (word_at M.state v) ≡ false
        by_test false q = q
        by_test true q = absurd (unwritten_tags r.actor.at none v (bare_of (word_at M.state v)) (mine_alone r.before r.behind (only_one one).0 (only_one one).1
            (subst (IsAny (λ g. Tags v (bare_of (word_at M.state v)) g.at)) r.is (holds.tagged counted v q))))

    pub alone_now : (e : Event) (news : List Seen) → run.asks p r.actor.at ≡ Some e →
        AllByRecursion (Sees (λ word. false) M.state (front ++ r.actor ∷ r.behind) r.actor.at) news → l.workers ≡ 1 →
        IsAlone c l p free (actor_gone p M.state e news r.actor)
    alone_now e news asked sees one =
        let mine_safe = safe p (λ word. false) M.state front r.actor r.behind sound_now in
        let was = r.mine.alone one in
        let ws = around (writings front) (run.writing_at r.actor.at) (writings r.behind) in
        let k = alone_event p M.state sound_now.suits.slots r.actor.private ws r.actor.at (no_count one)
        (no_tag one) mine_safe.pairs mine_safe.knows was.machine e
        asked in
        record {
          machine = k.0;
          queued = k.1 ∙ was.queued;
          seen = λ counted. all_both (λ x. is_tagged x.raw ≡ false) news r.actor.seen
              (all_weaker (Sees (λ word. false) M.state (front ++ r.actor ∷ r.behind) r.actor.at) (λ x. is_tagged x.raw ≡ false)
              (λ x h. alone_sees p M.state (front ++ r.actor ∷ r.behind) r.actor.private ws r.actor.at mine_safe.knows
              (λ none. no_tag one none counted) x h) news
              sees) (was.seen counted);
        }

    abbrev pub Gone : State → Op → Type 0
    Gone s next = let N : Moment Op = record M { state = s } in Holds c l p free (with_workers N (a ++ busy name number next call now ∷ b))

    -- what is to be shown of the event: the world and the heap after it, and what the operation knows with its machine
    -- further on
    pub record Went (s : State) (g : Actor) (m : Machine) : Type 0 where
      pub after_it : IsAfter c l p free op m
      pub words : length s.words ≡ words_of l
      pub slots : length s.slots ≡ l.slots
      pub same : let N : Moment Op = record M { state = s } in heap ≡ heap_of N holds.given holds.ghost
      pub sound : IsSound p (λ word. false) (world_of s front g r.behind)
      pub at : g.at ≡ working_in m
      pub name_same : (hand_of g.at).name ≡ name
      pub number_same : (hand_of g.at).number ≡ number
      pub reached : AllByRecursion (IsOpen l free heap) (goes_for g.at)
      pub reading : AllByRecursion (IsOpen l free heap) (reads_for g.at)
      pub mine : AllByRecursion (IsMine l free heap (own c.anatomy (c.anatomy.with_machine op m))) g.private
      pub facts : Facts c l p free heap (me_now g) (c.anatomy.with_machine op m) m
      pub tags : TagsGo p M.state s r.actor.at g.at
      pub alone : l.workers ≡ 1 → IsAlone c l p free g
      pub update : HasUpdate heap name number call (first_at k begun) (deed c.anatomy (c.anatomy.with_machine op m))
      pub rows : Rows c.anatomy l free s.counter heap (a ++ busy name number (c.anatomy.with_machine op m) call now ∷ b)
      pub history : History c.anatomy l free heap (a ++ busy name number (c.anatomy.with_machine op m) call now ∷ b)
      pub knows : c.knows heap (me_now g) (c.anatomy.with_machine op m)
