-- The events of a Confirm, and of a PLoad whose queue is full.
use Rattle.std.proofs.Common.{◌≡◌, inl, ℕ, ◌<◌, ◌&&◌, Bool, true, false, List, [], ◌∷◌, ◌++◌, length, Option, Some, None, refl, sym, ◌∙◌, ap, subst, if◌then◌else◌}
use Rattle.std.proofs.lemmas.Option.{same_Some}
use Rattle.std.specs.List.{AllByRecursion}
use Rattle.flit_words.specs.declared.layouts.Layout.{Layout}
use Rattle.flit_model.specs.States.{count_at}
use Rattle.flit_model.specs.Effects.{after, answer}
use Rattle.flit_model.specs.Settling.{progress_after}
use Rattle.flit_model.specs.declared.events.Event.{Event}
use Rattle.flit_model.specs.declared.events.Event.TheVariants.{ReadTag}
use Rattle.flit_model.specs.declared.calls.Call.{Call}
use Rattle.flit_model.specs.declared.calls.Entry.{Entry}
use Rattle.flit_place.specs.Tags.{Place, shown}
use Rattle.flit_pv.specs.declared.queues.Noted.{Noted}
use Rattle.flit_pv.specs.Loads.{HeldLoad}
use Rattle.flit_pv.specs.declared.loads.Loading.TheVariants.{MakesRoom as Load_makes_room}
use Rattle.flit_pv.specs.Confirms.{HeldConfirm}
use Rattle.flit_pv.specs.declared.confirms.Confirming.{Confirming}
use Rattle.flit_pv.specs.declared.confirms.Confirming.TheVariants.{Begins, MakesRoom, Done}
use Rattle.flit_pv.specs.Queues.{persist_of, first_persist, is_full}
use Rattle.flit_pv.specs.Loads.{load_asks, load_takes}
use Rattle.flit_pv.specs.Confirms.{confirm_asks, confirm_begins, confirm_takes, confirm_begun}
use Rattle.flit_runs.specs.Workings as run
use Rattle.flit_runs.specs.Workings.{Loads, Confirms, goes_for}
use Rattle.flit_runs.specs.Soundness.{MayWriteBack, load_owed, confirm_owed}
use Rattle.flit_structure.specs.declared.workers.Worker.{Worker}
use Rattle.flit_structure.specs.Moments.{Moment, with_workers, busy}
use Rattle.flit_structure.specs.Meanings.{first_at}
use Rattle.flit_crew.specs.Machines.{Works, deed_of, machine_takes, hand_of, reads_for, part_of, load_part}
use Rattle.flit_crew.specs.Heaps.{IsOpen}
use Rattle.flit_crew.specs.Anatomies.{op_taken}
use Rattle.flit_crew.specs.Crews.{Crew, Holds}
use Rattle.flit_crew.specs.Obligations.{Keeps}
use Rattle.flit_crew.proofs.Acting.{Split}
use Rattle.flit_crew.proofs.Going.{r, heap, me_now, knows_now}
use Rattle.flit_crew.proofs.Reading.{quietly, further, gone, same_deeds}
use Rattle.flit_crew.proofs.Fencing.{Fences, fences, pairs_now}
use Rattle.flit_crew.proofs.Stepping.{IsOn, load_behind, confirm_on}
use Rattle.flit_crew.proofs.Trying.{same_le}

none_some : (e : Event) → None ≡ Some e → ⊥
none_some e q = cc

module _ {G Op : Type 0} (c : Crew G Op) (l : Layout) (p : Place) (free : List ℕ) (keeps : Keeps c l p free) (M : Moment Op) (a : List (Worker Op))
    (name number : ℕ) (op : Op) (call : Call) (begun : Option ℕ) (b : List (Worker Op))
    (holds : Holds c l p free (with_workers M (a ++ busy name number op call begun ∷ b))) where
  abbrev K : ℕ
  K = length M.progress.settled

  abbrev mine : Split c l p free (heap c l p free keeps M a name number op call begun b holds K (same_le K)) a (busy name number op call begun) b holds.actors
  mine = r c l p free keeps M a name number op call begun b holds K (same_le K)

  abbrev pub Stepped : Event → Option Entry → Type 0
  Stepped e effect = Holds c l p free (record M {
    state = after M.state e;
    progress = progress_after M.progress M.state e effect;
    workers =
        a ++ busy name number (op_taken c.anatomy p free op (answer M.state e)) call (Some (first_at K begun)) ∷ b;
  })

  -- a PLoad makes room in its queue
  pub load_fences : (m : HeldLoad) → c.anatomy.machine op ≡ Works (Loads m) → (raw : ℕ) (first : Noted) → m.at ≡ Load_makes_room raw first →
      Fences c l p free keeps M a name number op call begun b holds (Loads m) first.word first.kept
  load_fences m is raw first at =
      let pair : MayWriteBack (λ x. false) M.state first = (subst (λ x. AllByRecursion (MayWriteBack (λ y. false) M.state) (load_owed x m)) at (pairs_now c l p
      free keeps M a name number op call begun b holds (Loads m) is)).0 in
      let t = load_behind p m (Load_makes_room raw first) raw 0 refl at in
      let taken : (told : ℕ) → run.takes p (Loads m) told ≡ Loads (load_takes p (Load_makes_room raw first) m 0) =
      λ told. ap (λ x. Loads (load_takes p x m told)) at in
      record {
        asks = ap (λ x. load_asks x m) at;
        had = pair.had;
        below = subst (λ x. first.word < x) holds.words pair.plain.0;
        deaf = λ told. taken told ∙ sym (taken 0);
        hand = subst (λ x. IsOn m.hand (hand_of x)) (sym (taken 0)) t.further.hand;
        goes = λ h o. subst (λ x. AllByRecursion (IsOpen l free h) (goes_for x)) (sym (taken 0))
            (subst (AllByRecursion (IsOpen l free h)) (sym t.further.goes) tt);
        reading = ap reads_for (taken 0);
        deeds = inl refl;
        facts = λ h me you on x. tt;
        knows = λ h me you kept on le known. subst (λ x. c.knows h you (c.anatomy.with_machine op (Works x))) (sym (taken 0))
            (keeps.steady h me you op (Works (Loads (load_takes p (Load_makes_room raw first) m 0))) (
              0,
              ap Works (sym (taken 0))
                  ∙ ap (λ x. machine_takes p free x 0) (sym is),
            ) kept on
            (t.part ∙ sym (ap part_of is ∙ ap (λ x. load_part x m.word) at)) known);
      }

  module _ (m : HeldConfirm) (is : c.anatomy.machine op ≡ Works (Confirms m)) where
    -- a Confirm reads the count of its slot
    pub confirm_reads : (slot : ℕ) → m.at ≡ Begins → p.slot m.word ≡ Some slot → Stepped (ReadTag slot) None
    confirm_reads slot at has =
        let e : Event = ReadTag slot in
        quietly c l p free keeps M a name number op call begun b holds K (same_le K) (Confirms m) is e []
        (ap (λ x. confirm_asks p x m) at ∙ ap (λ o. confirm_begins p m o) has) tt holds.words holds.slots refl
        (confirm_on p m m.at (count_at M.state slot)) tt tt
        refl (same_deeds c l p free keeps M a name number op call begun b holds K (same_le K) (Works (run.takes p (Confirms m) (count_at M.state slot)))
        (count_at M.state slot, ap (λ x. machine_takes p free x (count_at M.state slot)) (sym is)) (sym (ap deed_of is))) tt
        (keeps.steady _ (me_now c l p free keeps M a name number op call begun b holds K (same_le K) mine.actor)
        (me_now c l p free keeps M a name number op call begun b holds K (same_le K)
        (gone c l p free keeps M a name number op call begun b holds K (same_le K) e []))
        op (Works (run.takes p (Confirms m) (count_at M.state slot))) (count_at M.state slot, ap (λ x. machine_takes p free x (count_at M.state slot)) (sym is))
        holds.kept
        (further c l p free keeps M a name number op call begun b holds K (same_le K) e []) (sym (ap part_of is))
        (knows_now c l p free keeps M a name number op call begun b holds K (same_le K)))

    -- it makes room in its queue
    confirm_fences : (n : Noted) → MayWriteBack (λ x. false) M.state n → confirm_asks p m.at m ≡ Some (persist_of n) →
        ((told : ℕ) → confirm_takes p m.at m told ≡ confirm_takes p m.at m 0) →
        Fences c l p free keeps M a name number op call begun b holds (Confirms m) n.word n.kept
    confirm_fences n pair asks deaf = record {
      asks = asks;
      had = pair.had;
      below = subst (λ x. n.word < x) holds.words pair.plain.0;
      deaf = λ told. ap Confirms (deaf told);
      hand = confirm_on p m m.at 0;
      goes = λ h o. tt;
      reading = refl;
      deeds = inl refl;
      facts = λ h me you on x. tt;
      knows = λ h me you kept on le known. keeps.steady h me you op (Works (run.takes p (Confirms m) 0)) (0, ap (λ x. machine_takes p free x 0) (sym is)) kept
          on (sym (ap part_of is)) known;
    }

    owes : (t : Confirming) → m.at ≡ t → AllByRecursion (MayWriteBack (λ x. false) M.state) (confirm_owed t m)
    owes t at = subst (λ x. AllByRecursion (MayWriteBack (λ y. false) M.state) (confirm_owed x m)) at (pairs_now c l p free keeps M a name number op call begun
        b holds (Confirms m) is)

    begins : m.at ≡ Begins → (slot : Option ℕ) → p.slot m.word ≡ slot → (e : Event) → confirm_begins p m slot ≡ Some e → Stepped e None
    begins at (Some slot) has e q = subst (λ y. Stepped y None) (same_Some (ReadTag slot) e q) (confirm_reads slot at has)
    begins at None has e q = by_queue m.hand.queue refl (shown p.counted m.raw None && is_full m.hand.queue) refl q
      where
        by_queue : (queue : List Noted) → m.hand.queue ≡ queue → (t : Bool) → (shown p.counted m.raw None && is_full m.hand.queue) ≡ t →
            (if t then first_persist m.hand.queue else None) ≡ Some e → Stepped e None
        by_queue queue same false u v = absurd (none_some e v)
        by_queue [] same true u v = absurd (none_some e (sym (ap first_persist same) ∙ v))
        by_queue (n ∷ ns) same true u v =
            let pair : MayWriteBack (λ x. false) M.state n = (subst (AllByRecursion (MayWriteBack (λ x. false) M.state)) same (owes Begins at).1).0 in
            subst (λ y. Stepped y None) (same_Some (persist_of n) e (sym (ap first_persist same) ∙ v))
            (fences c l p free keeps M a name number op call begun b holds (Confirms m) is n.word n.kept (confirm_fences n pair
            (ap (λ x. confirm_asks p x m) at ∙ ap (λ o. confirm_begins p m o) has ∙ ap (λ t. if t then first_persist m.hand.queue else None) u
            ∙ ap first_persist same)
            (λ told. ap (λ x. confirm_takes p x m told) at ∙ ap (λ o. confirm_begun p m told o) has
            ∙ sym (ap (λ x. confirm_takes p x m 0) at ∙ ap (λ o. confirm_begun p m 0 o) has))))

    pub confirm_step : (t : Confirming) → m.at ≡ t → (e : Event) → confirm_asks p t m ≡ Some e → Stepped e None
    confirm_step Begins at e q = begins at (p.slot m.word) refl e q
    confirm_step (MakesRoom first) at e q = subst (λ y. Stepped y None) (same_Some (persist_of first) e q)
        (fences c l p free keeps M a name number op call begun b holds (Confirms m) is first.word first.kept
        (confirm_fences first (owes (MakesRoom first) at).0 (ap (λ x. confirm_asks p x m) at)
        (λ told. ap (λ x. confirm_takes p x m told) at ∙ sym (ap (λ x. confirm_takes p x m 0) at))))
    confirm_step Done at e q = absurd (none_some e q)
