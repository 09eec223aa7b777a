-- A call begins and ends; and so does an Evict.
use Rattle.std.proofs.Common.{◌≡◌, inl, ℕ, ◌+◌, ◌≤◌, ◌&&◌, not, Bool, true, false, List, [], ◌∷◌, ◌++◌, length, Option, Some, None, is_none, refl, sym, ◌∙◌, ap, subst, arith}
use Rattle.std.specs.Prelude.{Contains}
use Rattle.std.specs.List.{AllByRecursion}
use Rattle.flit_words.specs.declared.layouts.Layout.{Layout}
use Rattle.flit_model.specs.declared.calls.Call.{Call}
use Rattle.flit_model.specs.declared.events.Event.{Event}
use Rattle.flit_place.specs.Tags.{Place}
use Rattle.flit_place.proofs.Splits.{all_middle}
use Rattle.flit_pv.specs.declared.hands.Hand.{Hand}
use Rattle.flit_pv.specs.declared.queues.Noted.{Noted}
use Rattle.flit_pv.specs.Queues.{first_persist}
use Rattle.flit_pv.specs.Fences.{HeldComplete}
use Rattle.flit_runs.specs.Workings as run
use Rattle.flit_runs.specs.Workings.{Working, goes_for, Idles, Loads, VLoads, Confirms, Exchanges, VExchanges, Stores, Fences, Completes, Evicts, Task, ToEvict, started, takes_over, leaves}
use Rattle.flit_runs.specs.Worlds.{Actor, IsAway, world_of, begun, publishes, IsNotStoring}
use Rattle.flit_runs.specs.Soundness.{IsSound}
use Rattle.flit_runs.specs.Rules.{KeepsWords, MustBeDurable}
use Rattle.flit_runs.proofs.RuleLaws.{words_rule}
use Rattle.flit_runs.proofs.Turns.{sound-turn}
use Rattle.flit_structure.specs.declared.workers.Worker.{Worker}
use Rattle.flit_structure.specs.Moments.{Moment, with_workers, idle, busy, sweeper}
use Rattle.flit_structure.specs.Meanings.{IsServed}
use Rattle.flit_structure.proofs.Names.{all_both}
use Rattle.flit_crew.specs.Machines.{Machine, Works, Takes, Tags, Fresh, MakesAt, machine_asks, working_in, hand_in, hand_of, has_ended, is_complete, deed_of}
use Rattle.flit_crew.specs.Heaps.{Heap, heap_of, waits_at, IsOpen, IsWordOf, IsHidden}
use Rattle.flit_crew.specs.Anatomies.{own, own_in, hand_at, deed_by}
use Rattle.flit_crew.specs.Accounts.{HasUpdate, IsUnmade, Rows, History, IsSteady, AreTight, IsMaker}
use Rattle.flit_crew.specs.Crews.{Crew, Who, Holds, IsBusy, Facts, who_of, stranger_of}
use Rattle.flit_crew.specs.Obligations.{Keeps, StartsSo}
use Rattle.flit_crew.proofs.Outside.{outside_hidden, outside_away}
use Rattle.flit_crew.proofs.Acting.{Split}
use Rattle.flit_crew.proofs.Moving.{h, mine, is_sound, moved_still}
use Rattle.flit_runs.proofs.Changes.{sound_rests}
use Rattle.flit_crew.proofs.Accounting.{rows_steady, history_steady, own_number}
use Rattle.flit_crew.proofs.Standing.{own_fresh}
use Rattle.flit_crew.proofs.Owning.{IsOwn, own_row, own_away, lower}
use Rattle.flit_crew.proofs.Arriving.{resting, started_sound, started_alone, started_hand, started_open, started_reading}
use Rattle.flit_crew.proofs.Tagging.{tags_none}
use Rattle.flit_crew.proofs.Knowing.{started_facts}
use Rattle.flit_crew.proofs.Going.{all_hidden}

module _ {G Op : Type 0} (c : Crew G Op) (l : Layout) (p : Place) (free : List ℕ) (keeps : Keeps c l p free) (M : Moment Op) (a b : List (Worker Op)) where
  -- ---- a call begins

  module _ (name number : ℕ) (hand : Hand) (call : Call) (served : IsServed l call)
      (holds : Holds c l p free (with_workers M (a ++ idle name number hand ∷ b))) where
    abbrev u : Worker Op
    u = idle name number hand

    abbrev here : Heap G
    here = h c l p free keeps M a u b holds

    abbrev r : Split c l p free here a u b holds.actors
    r = mine c l p free keeps M a u b holds

    -- those before it in the world
    abbrev front : List Actor
    front = stranger_of holds.stranger ∷ r.before

    abbrev now : Hand
    now = record hand { number = hand.number + 1 }

    abbrev op : Op
    op = c.anatomy.begun hand call

    abbrev w : Worker Op
    w = busy name (number + 1) op call None

    abbrev me : Who
    me = who_of name (number + 1) call None r.actor

    x : StartsSo c l p free here me now op
    x = keeps.starts here me hand holds.kept served

    nothing_private : r.actor.private ≡ []
    nothing_private = r.mine.doing.0

    rests : IsSound p (λ word. false) (world_of M.state front (resting me x.now) r.behind)
    rests = sound_rests p (λ word. false) M.state front r.actor r.behind x.now (ap run.writing_at r.mine.at)
        (ap Rattle.flit_runs.specs.Soundness.owed r.mine.at ∙ sym x.alike.queue) (is_sound c l p free keeps M a u b holds)

    abbrev g : Actor
    g = begun x.task (resting me x.now)

    own_is : (row : ℕ) → Contains (own c.anatomy op) row → IsOwn (λ v. own_in c.anatomy v.doing) free holds.given a b row
    own_is row k = own_row (λ v. own_in c.anatomy v.doing) free M.state.counter holds.given a u b row (lower free holds.pool.rising) holds.rows.dealt
        (subst (λ rows. Contains rows row) (keeps.begun_own hand call) k)

    others : AllByRecursion (λ o. AllByRecursion (IsHidden l free here) o.private) (front ++ r.behind)
    others = all_both (λ o. AllByRecursion (IsHidden l free here) o.private) front r.behind
        (outside_hidden l free here holds.opening holds.stranger holds.outside, all_hidden c l p free here a r.before r.left)
        (all_hidden c l p free here b r.behind r.right)

    unreached : (row v : ℕ) → Contains (own c.anatomy op) row → IsWordOf l row v →
        AllByRecursion (λ o. IsAway o.private v × IsAway (goes_for o.at) v) (front ++ r.behind)
    unreached row v k of = (
      (outside_away l free here holds.pool holds.opening holds.stranger holds.outside row v (own_is row k).pool of, tt),
      own_away c l p free here holds.pool a b r.before r.behind r.left r.right row v (own_is row k) of,
    )

    sound : IsSound p (λ word. false) (world_of M.state front g r.behind)
    sound = started_sound c l p free here holds.accepted M.state holds.words refl front r.behind others op
        (λ row k. ((own_is row k).pool, (own_is row k).unlinked)) unreached me x.now x.task (inl x.none)
        (subst (AllByRecursion (IsHidden l free here)) (sym nothing_private) tt) rests x.may

    at : g.at ≡ working_in (c.anatomy.machine op)
    at = ap working_in (sym x.at)

    hand_is : hand_of g.at ≡ x.now
    hand_is = started_hand c l p free here me x.task x.now x.may

    none_private : g.private ≡ []
    none_private = ap (λ ws. ws ++ r.actor.private) x.none ∙ nothing_private

    knows : c.knows here (who_of name (number + 1) call None g) op
    knows = keeps.begins here (who_of name (number + 1) call None g) hand holds.kept served (least (length M.progress.settled)) none_private
      where
        least : (n : ℕ) → 0 ≤ n
        least n = omega arith

    unmade : IsUnmade here.progress name (number + 1)
    unmade = Rattle.flit_model.proofs.Elements.all_weaker (λ e. Rattle.flit_crew.specs.Accounts.IsAny (Rattle.flit_crew.specs.Accounts.HasNumber c.anatomy e)
        (a ++ u ∷ b)) (λ e. e.worker ≡ name → e.number ≡ number + 1 → ⊥)
        (λ e k same is. above e.number number (own_number c.anatomy l free a u b e holds.different k same) is)
        (Rattle.flit_structure.specs.Moments.made M.progress) holds.history.numbered
      where
        above : (x n : ℕ) → x ≤ n → x ≡ n + 1 → ⊥
        above x n i e = omega (arith, i, e)

    hand_begun : hand_at c.anatomy w.doing ≡ x.now
    hand_begun = ap hand_of (sym at) ∙ hand_is

    steady : IsSteady c.anatomy l here u w
    steady = record {
      own = keeps.begun_own hand call;
      ticket = ap (λ y. y.ticket) hand_begun ∙ x.alike.ticket;
      tight = λ t. subst (AreTight l) (sym (keeps.begun_spare hand call)) t;
      makes = λ word e is q. absurd q;
    }

    begin_facts : Facts c l p free here (who_of name (number + 1) call None g) op (c.anatomy.machine op)
    begin_facts = subst (Facts c l p free here (who_of name (number + 1) call None g) op) (sym x.at)
        (started_facts c l p free here me x.now op x.task x.may (inl x.none) (sym (ap (has_ended p) x.at) ∙ x.going) x.is_for)

    pub begins : Holds c l p free (with_workers M (a ++ w ∷ b))
    begins = moved_still c l p free keeps M a u b holds M.state w g refl holds.words holds.slots sound
        (tags_none p M.state M.state r.actor.at g.at refl (subst (λ y. (z bare : ℕ) → Tags z bare y → ⊥) (sym r.mine.at) (λ z bare i. i))) refl
        (record {
          at = at;
          name = ap (λ y. y.name) hand_is ∙ x.alike.name ∙ ap (λ y. (hand_of y).name) (sym r.mine.at) ∙ r.mine.name;
          number = ap (λ y. y.number) hand_is ∙ x.alike.number ∙ ap (λ n. n + 1) (ap (λ y. (hand_of y).number) (sym r.mine.at) ∙ r.mine.number);
          least = r.mine.least;
          most = r.mine.most;
          reached = started_open c l p free here me x.task x.now x.may;
          reading = started_reading c l p free here me x.task x.now x.may;
          mine = subst (AllByRecursion (Rattle.flit_crew.specs.Heaps.IsMine l free here (own c.anatomy op))) (sym none_private) tt;
          published = λ q t. none_private;
          alone = λ one. started_alone c l p free here holds.accepted M.state holds.words refl front r.behind others op
              (λ row k. ((own_is row k).pool, (own_is row k).unlinked)) unreached me x.now rests x.task x.may
              (record {
                machine = tt;
                queued = x.alike.queued ∙ ap (λ y. (hand_of y).tally.queued) (sym r.mine.at) ∙ (r.mine.alone one).queued;
                seen = (r.mine.alone one).seen;
              });
          doing = record {
            same_call = x.call;
            served = served;
            first = least (length M.progress.settled);
            waits = λ e. (hand, refl, none_private);
            facts = begin_facts;
            going = x.going;
            update = subst (HasUpdate here name (number + 1) call 0) (sym (keeps.begun_deed hand call)) unmade;
            knows = knows;
          };
        })
        (rows_steady c.anatomy l free M.state.counter here a u w b steady holds.rows)
        (history_steady c.anatomy l free here a u w b refl (next number) (λ word e is q. absurd q) holds.history)
      where
        least : (n : ℕ) → 0 ≤ n
        least n = omega arith

        next : (n : ℕ) → n ≤ n + 1
        next n = omega arith

  -- ---- a call ends, with its Complete

  module _ (name number : ℕ) (op : Op) (call : Call) (begun_at : Option ℕ)
      (holds : Holds c l p free (with_workers M (a ++ busy name number op call begun_at ∷ b))) (none : machine_asks p (c.anatomy.machine op) ≡ None) where
    abbrev v : Worker Op
    v = busy name number op call begun_at

    abbrev pub there : Heap G
    there = h c l p free keeps M a v b holds

    abbrev pub q : Split c l p free there a v b holds.actors
    q = mine c l p free keeps M a v b holds

    abbrev front_there : List Actor
    front_there = stranger_of holds.stranger ∷ q.before

    pub known : IsBusy c l p free there q.actor name number op call begun_at
    known = q.mine.doing

    -- a machine that asks nothing while its call is under way is a Complete
    pub is_complete_now : (m : HeldComplete) × (c.anatomy.machine op ≡ Works (Completes m)) × (m.fence.hand.queue ≡ [])
    is_complete_now = by_machine (c.anatomy.machine op) refl none known.going
      where
        none_first : (queue : List Noted) → first_persist queue ≡ None → queue ≡ []
        none_first [] e = refl
        none_first (n ∷ ns) e = absurd (cc)

        ended : (o : Option Event) → o ≡ None → (is_none o && true) ≡ false → ⊥
        ended None e f = cc
        ended (Some x) e f = cc

        by_working : (w : Working) → run.asks p w ≡ None → (is_none (run.asks p w) && not (is_complete w)) ≡ false → (m : HeldComplete) × (w ≡ Completes m)
            × (m.fence.hand.queue ≡ [])
        by_working (Idles hand) e f = absurd (ended (run.asks p (Idles hand)) e f)
        by_working (Loads m) e f = absurd (ended (run.asks p (Loads m)) e f)
        by_working (VLoads m) e f = absurd (ended (run.asks p (VLoads m)) e f)
        by_working (Confirms m) e f = absurd (ended (run.asks p (Confirms m)) e f)
        by_working (Exchanges m) e f = absurd (ended (run.asks p (Exchanges m)) e f)
        by_working (VExchanges m) e f = absurd (ended (run.asks p (VExchanges m)) e f)
        by_working (Stores m) e f = absurd (ended (run.asks p (Stores m)) e f)
        by_working (Fences m) e f = absurd (ended (run.asks p (Fences m)) e f)
        by_working (Completes m) e f = (m, refl, none_first m.fence.hand.queue e)
        by_working (Evicts m) e f = absurd (ended (run.asks p (Evicts m)) e f)

        by_machine : (m : Machine) → c.anatomy.machine op ≡ m → machine_asks p m ≡ None → has_ended p m ≡ false → (n : HeldComplete)
            × (c.anatomy.machine op ≡ Works (Completes n)) × (n.fence.hand.queue ≡ [])
        by_machine (Works w) is e f = let x = by_working w e f in (x.0, is ∙ ap Works x.1, x.2)
        by_machine (Takes m) is e f = absurd (ended (machine_asks p (Takes m)) e f)

    abbrev m : HeldComplete
    m = is_complete_now.0

    abbrev is : c.anatomy.machine op ≡ Works (Completes m)
    is = is_complete_now.1

    abbrev left_hand : Hand
    left_hand = hand_in (c.anatomy.machine op)

    hand_was : left_hand ≡ m.fence.hand
    hand_was = ap hand_in is

    at_complete : q.actor.at ≡ Completes m
    at_complete = q.mine.at ∙ ap working_in is

    -- with its words published, as all of them are persistent
    abbrev open_actor : Actor
    open_actor = record q.actor { private = [] }

    asks_nothing : run.asks p q.actor.at ≡ None
    asks_nothing = ap (run.asks p) at_complete ∙ ap first_persist is_complete_now.2

    opened : IsSound p (λ y. false) (world_of M.state front_there open_actor q.behind)
    opened =
        let sound = is_sound c l p free keeps M a v b holds in
        let words : KeepsWords p M.state q.actor = all_middle (KeepsWords p M.state) front_there q.actor q.behind
        (words_rule p (λ y. false) (world_of M.state front_there q.actor q.behind) sound) in
        sound-turn p (λ y. false) (world_of M.state front_there q.actor q.behind) (world_of M.state front_there open_actor q.behind)
        (publishes M.state front_there q.actor q.behind (subst IsNotStoring (sym at_complete) tt)
        (words (subst (MustBeDurable p) (sym at_complete) (ap first_persist is_complete_now.2)))) sound

    abbrev left_actor : Actor
    left_actor = record { at = Idles left_hand; needs = q.actor.needs; seen = q.actor.seen; private = [] }

    left_sound : IsSound p (λ y. false) (world_of M.state front_there left_actor q.behind)
    left_sound = sound_rests p (λ y. false) M.state front_there open_actor q.behind left_hand (ap run.writing_at at_complete)
        (ap Rattle.flit_runs.specs.Soundness.owed at_complete ∙ ap (λ y. y.queue) (sym hand_was)) opened

    abbrev w_idle : Worker Op
    w_idle = idle name number left_hand

    over : IsSteady c.anatomy l there v w_idle
    over = record {
      own = sym (own_fresh c.anatomy op (ap deed_of is));
      ticket = refl;
      tight = λ t. t;
      makes = λ word e waits y. absurd (no_make (c.anatomy.effects op) (c.anatomy.past op) word
          (subst (λ d. MakesAt (deed_by c.anatomy (c.anatomy.effects op) (c.anatomy.past op) d) word) (ap deed_of is) y.0));
    }
      where
        no_make : (t past : Bool) (word : ℕ) → MakesAt (deed_by c.anatomy t past Fresh) word → ⊥
        no_make true past word y = y
        no_make false true word y = y
        no_make false false word y = y

    pub ends : Holds c l p free (with_workers M (a ++ w_idle ∷ b))
    ends = moved_still c l p free keeps M a v b holds M.state w_idle left_actor refl holds.words holds.slots left_sound
        (tags_none p M.state M.state q.actor.at left_actor.at refl (subst (λ y. (z bare : ℕ) → Tags z bare y → ⊥) (sym at_complete) (λ z bare i. i))) refl
        (record {
          at = refl;
          name = ap (λ y. (hand_of y).name) (sym q.mine.at) ∙ q.mine.name;
          number = ap (λ y. (hand_of y).number) (sym q.mine.at) ∙ q.mine.number;
          least = q.mine.least;
          most = q.mine.most;
          reached = tt;
          reading = tt;
          mine = tt;
          published = λ z t. refl;
          alone = λ one. record {
            machine = tt;
            queued = ap (λ y. (hand_of y).tally.queued) (sym q.mine.at) ∙ (q.mine.alone one).queued;
            seen = (q.mine.alone one).seen;
          };
          doing = (refl, ap (λ y. y.queue) hand_was ∙ is_complete_now.2);
        })
        (rows_steady c.anatomy l free M.state.counter there a v w_idle b over holds.rows)
        (history_steady c.anatomy l free there a v w_idle b refl (same_le number) over.makes holds.history)
      where
        same_le : (n : ℕ) → n ≤ n
        same_le n = omega arith
