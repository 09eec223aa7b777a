-- The events of a call that loads: by a VLoad or by a PLoad; and those of a Confirm.
use Rattle.std.proofs.Common.{◌≡◌, inl, inr, ℕ, ◌<◌, ◌≤◌, false, List, [], ◌∷◌, ◌++◌, length, Option, Some, refl, sym, ◌∙◌, ap, subst, arith}
use Rattle.std.specs.List.{AllByRecursion}
use Rattle.flit_words.specs.declared.layouts.Layout.{Layout}
use Rattle.flit_words.specs.Layouts.{words_of}
use Rattle.flit_words.specs.Words.{version_of}
use Rattle.flit_model.specs.States.{State, word_at, count_at}
use Rattle.flit_model.specs.Effects.{after, answer}
use Rattle.flit_model.specs.declared.events.Event.{Event}
use Rattle.flit_model.specs.declared.events.Event.TheVariants.{Load, ReadTag}
use Rattle.flit_model.specs.declared.calls.Call.{Call}
use Rattle.flit_model.proofs.Elements.{all_weaker}
use Rattle.flit_place.specs.Tags.{Place}
use Rattle.flit_pv.specs.Loads.{HeldLoad}
use Rattle.flit_pv.specs.declared.loads.Loading.TheVariants.{Reads as Load_reads, Asks}
use Rattle.flit_pv.specs.VLoads.{HeldVLoad}
use Rattle.flit_pv.specs.declared.v_loads.VLoading.TheVariants.{Reads as V_reads, Has as V_has}
use Rattle.flit_pv.specs.Loads.{load_asks, load_takes}
use Rattle.flit_pv.specs.VLoads.{v_load_asks}
use Rattle.flit_runs.specs.Workings as run
use Rattle.flit_runs.specs.Workings.{Dependency, Working, Loads, VLoads, gains, load_gains, goes_for}
use Rattle.flit_runs.specs.Worlds.{Actor, world_of, Seen, HasSeen, Sees, IsAway, IsNobodys, gone_on as actor_gone}
use Rattle.flit_runs.specs.Soundness.{Needs}
use Rattle.flit_structure.specs.declared.workers.Worker.{Worker}
use Rattle.flit_structure.specs.Moments.{Moment, with_workers, busy, update_of}
use Rattle.flit_structure.specs.Meanings.{first_at}
use Rattle.flit_model.specs.declared.calls.Entry.{Entry}
use Rattle.flit_structure.proofs.Names.{all_both}
use Rattle.flit_crew.specs.Machines.{Machine, Works, Takes, MakesAt, deed_of, has_linked, working_in, hand_in, hand_of, machine_takes, reads_for, part_of, Part, ToRead, HasRead, load_part}
use Rattle.flit_crew.specs.Heaps.{Heap, heap_of, waits_at, IsOpen, IsHidden, IsMine, AreOld}
use Rattle.flit_crew.specs.Anatomies.{deed, gone_on, op_taken}
use Rattle.flit_crew.specs.Accounts.{HasUpdate, Rows, IsSteady}
use Rattle.flit_crew.specs.Crews.{Crew, Who, Holds, IsFurther, Facts, stranger_of}
use Rattle.flit_crew.specs.Obligations.{Keeps, IsAfter}
use Rattle.flit_crew.proofs.Outside.{outside_hidden}
use Rattle.flit_crew.proofs.Acting.{Split, hidden_of}
use Rattle.flit_crew.proofs.Moving.{is_old}
use Rattle.flit_crew.proofs.Accounting.{rows_steady, history_steady}
use Rattle.flit_crew.proofs.Standing.{deed_same, steady_with}
use Rattle.flit_crew.proofs.Arriving.{away}
use Rattle.flit_crew.proofs.WritingBack.{word_bare}
use Rattle.flit_crew.proofs.Going.{r, heap, me_now, Gone, turned, tags_now, alone_now, knows_now, update_now, since, all_hidden}
use Rattle.flit_crew.proofs.GoingTo.{went}
use Rattle.flit_crew.proofs.Stepping.{IsOn, load_first, load_behind}

pub needs_more : (more needs : List Dependency) (w v : ℕ) → Needs needs w v → Needs (more ++ needs) w v
needs_more [] needs w v h = h
needs_more (d ∷ ds) needs w v h = inr (needs_more ds needs w v h)

pub seen_more : (news seen : List Seen) (w raw : ℕ) → HasSeen seen w raw → HasSeen (news ++ seen) w raw
seen_more [] seen w raw h = h
seen_more (x ∷ xs) seen w raw h = inr (seen_more xs seen w raw h)

module _ {G Op : Type 0} (c : Crew G Op) (l : Layout) (p : Place) (free : List ℕ) (keeps : Keeps c l p free) (M : Moment Op) (a : List (Worker Op))
    (name number : ℕ) (op : Op) (call : Call) (begun : Option ℕ) (b : List (Worker Op))
    (holds : Holds c l p free (with_workers M (a ++ busy name number op call begun ∷ b))) (k : ℕ) (settled : k ≤ length M.progress.settled) where
  abbrev mine : Split c l p free (heap c l p free keeps M a name number op call begun b holds k settled) a (busy name number op call begun) b holds.actors
  mine = r c l p free keeps M a name number op call begun b holds k settled

  -- those before it in the world
  abbrev front : List Actor
  front = stranger_of holds.stranger ∷ mine.before

  abbrev here : Heap G
  here = heap c l p free keeps M a name number op call begun b holds k settled

  abbrev me_as : Actor → Who
  me_as g = me_now c l p free keeps M a name number op call begun b holds k settled g

  abbrev Next : State → Op → Type 0
  Next s o = Gone c l p free keeps M a name number op call begun b holds k settled s o

  -- its actor after the event
  abbrev pub gone : Event → List Seen → Actor
  gone e news = actor_gone p M.state e news mine.actor

  pub further : (e : Event) (news : List Seen) → IsFurther (me_as mine.actor) (me_as (gone e news))
  further e news = record {
    name = refl;
    number = refl;
    call = refl;
    first = refl;
    needs = λ w v h. needs_more (gains p mine.actor.at (answer M.state e)) mine.actor.needs w v h;
    seen = λ w raw h. seen_more news mine.actor.seen w raw h;
    private = λ w h. h;
  }

  -- where its update is, with its machine further on
  pub record Deeds (m : Machine) : Type 0 where
    pub linked : has_linked (deed_of m) ≡ has_linked (deed_of (c.anatomy.machine op))
    pub update : HasUpdate here name number call (first_at k begun) (deed c.anatomy (c.anatomy.with_machine op m))
    pub makes : (word : ℕ) (e : Entry) → waits_at here word ≡ Some e → e ≡ update_of name number call → MakesAt (deed c.anatomy op) word →
        MakesAt (deed c.anatomy (c.anatomy.with_machine op m)) word

  pub same_deeds : (m : Machine) → IsAfter c l p free op m → deed_of m ≡ deed_of (c.anatomy.machine op) → Deeds m
  same_deeds m after_it same =
      let deeds = deed_same c l p free keeps op m after_it same in record {
        linked = ap has_linked same;
        update = subst (HasUpdate here name number call (first_at k begun)) (sym deeds)
            (update_now c l p free keeps M a name number op call begun b holds k settled);
        makes = λ word e waits own makes. subst (λ d. MakesAt d word) (sym deeds) makes;
      }

  module _ (w : Working) (is : c.anatomy.machine op ≡ Works w) where
    pub at_it : mine.actor.at ≡ w
    at_it = mine.mine.at ∙ ap working_in is

    -- an event that leaves the heap as it was
    pub quietly : (e : Event) (news : List Seen) → run.asks p w ≡ Some e →
        AllByRecursion (Sees (λ x. false) M.state (front ++ mine.actor ∷ mine.behind) w) news →
        length (after M.state e).words ≡ words_of l → length (after M.state e).slots ≡ l.slots →
        (let N : Moment Op = record M { state = after M.state e } in here ≡ heap_of N holds.given holds.ghost) →
        IsOn (hand_of w) (hand_of (run.takes p w (answer M.state e))) → AllByRecursion (IsOpen l free here) (goes_for (run.takes p w (answer M.state e))) →
        AllByRecursion (IsOpen l free here) (reads_for (run.takes p w (answer M.state e))) →
        (after M.state e).counter ≡ M.state.counter → Deeds (Works (run.takes p w (answer M.state e))) →
        Facts c l p free here (me_as (gone e news)) (c.anatomy.with_machine op (Works (run.takes p w (answer M.state e))))
        (Works (run.takes p w (answer M.state e))) →
        c.knows here (me_as (gone e news)) (c.anatomy.with_machine op (Works (run.takes p w (answer M.state e)))) →
        Next (after M.state e) (op_taken c.anatomy p free op (answer M.state e))
    quietly e news asked sees words slots same hand goes reading counter deeds facts knows =
        subst (λ m. Next (after M.state e) (gone_on c.anatomy p op (machine_takes p free m (answer M.state e)))) (sym is)
        (went c l p free keeps M a name number op call begun b holds k settled (after M.state e) (gone e news) (Works (run.takes p w (answer M.state e)))
        (record {
          after_it = after_it;
          words = words;
          slots = slots;
          same = same;
          sound = turned c l p free keeps M a name number op call begun b holds k settled e news (ap (run.asks p) at_it ∙ asked)
              (subst (λ x. AllByRecursion (Sees (λ y. false) M.state (front ++ mine.actor ∷ mine.behind) x) news) (sym at_it) sees);
          at = after_at;
          name_same = ap (λ x. (hand_of x).name) after_at ∙ hand.name ∙ ap (λ x. (hand_of x).name) (sym at_it) ∙ mine.mine.name;
          number_same = ap (λ x. (hand_of x).number) after_at ∙ hand.number ∙ ap (λ x. (hand_of x).number) (sym at_it) ∙ mine.mine.number;
          reached = subst (λ x. AllByRecursion (IsOpen l free here) (goes_for x)) (sym after_at) goes;
          reading = subst (λ x. AllByRecursion (IsOpen l free here) (reads_for x)) (sym after_at) reading;
          mine = subst (λ rows. AllByRecursion (IsMine l free here rows) mine.actor.private) (sym steady.own) mine.mine.mine;
          facts = facts;
          tags = tags_now c l p free keeps M a name number op call begun b holds k settled e (ap (run.asks p) at_it ∙ asked);
          alone = alone_now c l p free keeps M a name number op call begun b holds k settled e news (ap (run.asks p) at_it ∙ asked)
              (subst (λ x. AllByRecursion (Sees (λ y. false) M.state (front ++ mine.actor ∷ mine.behind) x) news) (sym at_it) sees);
          update = deeds.update;
          rows = subst (λ n. Rows c.anatomy l free n here (a ++ next ∷ b)) (sym counter)
              (rows_steady c.anatomy l free M.state.counter here a (busy name number op call begun) next b steady holds.rows);
          history = history_steady c.anatomy l free here a (busy name number op call begun) next b refl (same_le number) steady.makes holds.history;
          knows = knows;
        }))
      where
        same_le : (x : ℕ) → x ≤ x
        same_le x = omega arith

        m : Machine
        m = Works (run.takes p w (answer M.state e))

        after_it : IsAfter c l p free op m
        after_it = (answer M.state e, ap (λ x. machine_takes p free x (answer M.state e)) (sym is))

        next : Worker Op
        next = busy name number (c.anatomy.with_machine op m) call (Some (first_at k begun))

        steady : IsSteady c.anatomy l here (busy name number op call begun) next
        steady = steady_with c l p free keeps op m after_it here name number call begun (Some (first_at k begun)) deeds.linked
            (hand.spare ∙ ap (λ x. (hand_in x).spare) (sym is)) (hand.ticket ∙ ap (λ x. (hand_in x).ticket) (sym is)) deeds.makes

        after_at : (gone e news).at ≡ run.takes p w (answer M.state e)
        after_at = ap (λ x. run.takes p x (answer M.state e)) at_it

  -- what it depends on has been
  pub old_now : AreOld here mine.actor.needs
  old_now = (Rattle.flit_structure.proofs.Names.all_right (λ g. AreOld here g.needs) front (mine.actor ∷ mine.behind)
      (is_old c l p free keeps M a (busy name number op call begun) b holds)).0

  -- a word that everybody may reach is nobody's
  nobodys : (w : ℕ) → IsOpen l free here w → IsNobodys (front ++ mine.actor ∷ mine.behind) w
  nobodys w o = all_weaker (λ g. AllByRecursion (IsHidden l free here) g.private) (λ g. IsAway g.private w) (λ g shut. away c l p free here w o g.private shut)
      (front ++ mine.actor ∷ mine.behind)
      (all_both (λ g. AllByRecursion (IsHidden l free here) g.private) front (mine.actor ∷ mine.behind)
      (outside_hidden l free here holds.opening holds.stranger holds.outside, all_hidden c l p free here a mine.before mine.left)
      (hidden_of c l p free here (busy name number op call begun) mine.actor mine.mine, all_hidden c l p free here b mine.behind mine.right))

  -- ---- a VLoad

  pub v_loads : (m : HeldVLoad) → c.anatomy.machine op ≡ Works (VLoads m) → m.at ≡ V_reads →
      Next (after M.state (Load m.word)) (op_taken c.anatomy p free op (answer M.state (Load m.word)))
  v_loads m is at =
      let word : ℕ = m.word in
      let raw : ℕ = word_at M.state word in
      let news : Seen = record { word = word; raw = raw } in
      let reading : AllByRecursion (IsOpen l free here) (reads_for (VLoads m)) =
      subst (λ x. AllByRecursion (IsOpen l free here) (reads_for x)) (at_it (VLoads m) is) mine.mine.reading in
      let o : IsOpen l free here word = (subst (λ x. AllByRecursion (IsOpen l free here) (Rattle.flit_crew.specs.Machines.v_reads_for x word)) at reading).0 in
      let e : Event = Load word in
      let taken : run.takes p (VLoads m) raw ≡ VLoads (record m { at = V_has raw }) = ap (λ x. VLoads (Rattle.flit_pv.specs.VLoads.v_load_takes x m raw)) at in
      quietly (VLoads m) is e (news ∷ []) (ap (λ x. v_load_asks x m) at) (
        subst (λ x. Rattle.flit_runs.specs.Worlds.VLoadSees (λ y. false) M.state (front ++ mine.actor ∷ mine.behind) x word news) (sym at)
            (record { within = subst (λ n. word < n) (sym holds.words) o.within; plain = refl; reached = nobodys word o }, refl, refl),
        tt,
      )
      holds.words holds.slots refl
      (subst (λ x. IsOn m.hand (hand_of x)) (sym taken) (record { name = refl; number = refl; spare = refl; ticket = refl }))
      (subst (λ x. AllByRecursion (IsOpen l free here) (goes_for x)) (sym taken) tt)
      (subst (λ x. AllByRecursion (IsOpen l free here) (reads_for x)) (sym taken) tt)
      refl (same_deeds (Works (run.takes p (VLoads m) raw)) (raw, ap (λ x. machine_takes p free x raw) (sym is)) (sym (ap deed_of is))) tt
      (subst (λ x. c.knows here (me_as (gone e (news ∷ []))) (c.anatomy.with_machine op (Works x))) (sym taken)
      (keeps.reads here (me_as mine.actor) (me_as (gone e (news ∷ []))) op (Works (VLoads (record m { at = V_has raw }))) word raw (
        raw,
        ap Works (sym taken)
            ∙ ap (λ x. machine_takes p free x raw) (sym is),
      ) holds.kept (since c l p free keeps M a name number op call begun b holds k settled) old_now
      (further e (news ∷ [])) o (sym (word_bare M.state.words word))
      (ap part_of is ∙ ap (λ x. Rattle.flit_crew.specs.Machines.v_load_part x word) at) refl (inl (refl, refl))
      (knows_now c l p free keeps M a name number op call begun b holds k settled)))

  -- ---- a PLoad: its Load

  pub p_loads : (m : HeldLoad) → c.anatomy.machine op ≡ Works (Loads m) → m.at ≡ Load_reads →
      Next (after M.state (Load m.word)) (op_taken c.anatomy p free op (answer M.state (Load m.word)))
  p_loads m is at =
      let word : ℕ = m.word in
      let raw : ℕ = word_at M.state word in
      let reached : AllByRecursion (IsOpen l free here) (goes_for (Loads m)) =
      subst (λ x. AllByRecursion (IsOpen l free here) (goes_for x)) (at_it (Loads m) is) mine.mine.reached in
      let o : IsOpen l free here word = (subst (λ x. AllByRecursion (IsOpen l free here) (run.load_goes_for x word)) at reached).0 in
      let e : Event = Load word in
      let taken : run.takes p (Loads m) raw ≡ Loads (load_takes p Load_reads m raw) = ap (λ x. Loads (load_takes p x m raw)) at in
      let t = load_first p m raw in
      quietly (Loads m) is e [] (ap (λ x. load_asks x m) at) tt holds.words holds.slots refl
      (subst (λ x. IsOn m.hand (hand_of x)) (sym taken) t.further.hand)
      (subst (λ x. AllByRecursion (IsOpen l free here) (goes_for x)) (sym taken) (subst (AllByRecursion (IsOpen l free here)) (sym t.further.goes) tt))
      (subst (λ x. AllByRecursion (IsOpen l free here) (reads_for x)) (sym taken) tt)
      refl (same_deeds (Works (run.takes p (Loads m) raw)) (raw, ap (λ x. machine_takes p free x raw) (sym is)) (sym (ap deed_of is))) tt
      (subst (λ x. c.knows here (me_as (gone e [])) (c.anatomy.with_machine op (Works x))) (sym taken)
      (keeps.reads here (me_as mine.actor) (me_as (gone e [])) op (Works (Loads (load_takes p Load_reads m raw))) word raw (
        raw,
        ap Works (sym taken)
            ∙ ap (λ x. machine_takes p free x raw) (sym is),
      ) holds.kept (since c l p free keeps M a name number op call begun b holds k settled) old_now
      (further e []) o (sym (word_bare M.state.words word))
      (ap part_of is ∙ ap (λ x. load_part x word) at) t.part
      (subst (λ x. Needs (gains p x raw ++ mine.actor.needs) word (version_of raw)) (sym (at_it (Loads m) is))
      (subst (λ x. Needs (load_gains x m raw ++ mine.actor.needs) word (version_of raw)) (sym at) (inl (refl, refl))))
      (knows_now c l p free keeps M a name number op call begun b holds k settled)))

  -- its further events: what it has read stays
  pub p_asks : (m : HeldLoad) (raw slot : ℕ) → c.anatomy.machine op ≡ Works (Loads m) → m.at ≡ Asks raw slot →
      Next (after M.state (ReadTag slot)) (op_taken c.anatomy p free op (answer M.state (ReadTag slot)))
  p_asks m raw slot is at =
      let told : ℕ = count_at M.state slot in
      let e : Event = ReadTag slot in
      let taken : run.takes p (Loads m) told ≡ Loads (load_takes p (Asks raw slot) m told) = ap (λ x. Loads (load_takes p x m told)) at in
      let t = load_behind p m (Asks raw slot) raw told refl at in
      quietly (Loads m) is e [] (ap (λ x. load_asks x m) at) tt holds.words holds.slots refl
      (subst (λ x. IsOn m.hand (hand_of x)) (sym taken) t.further.hand)
      (subst (λ x. AllByRecursion (IsOpen l free here) (goes_for x)) (sym taken) (subst (AllByRecursion (IsOpen l free here)) (sym t.further.goes) tt))
      (subst (λ x. AllByRecursion (IsOpen l free here) (reads_for x)) (sym taken) tt)
      refl (same_deeds (Works (run.takes p (Loads m) told)) (told, ap (λ x. machine_takes p free x told) (sym is)) (sym (ap deed_of is))) tt
      (subst (λ x. c.knows here (me_as (gone e [])) (c.anatomy.with_machine op (Works x))) (sym taken)
      (keeps.steady here (me_as mine.actor) (me_as (gone e [])) op (Works (Loads (load_takes p (Asks raw slot) m told))) (
        told,
        ap Works (sym taken)
            ∙ ap (λ x. machine_takes p free x told) (sym is),
      ) holds.kept (further e [])
      (t.part ∙ sym (ap part_of is ∙ ap (λ x. load_part x m.word) at))
      (knows_now c l p free keeps M a name number op call begun b holds k settled)))
