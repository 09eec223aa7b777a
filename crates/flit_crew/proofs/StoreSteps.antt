-- The other events of a call's PrivateStore: it loads its words, and writes back what is queued.
use Rattle.std.specs.List.{Contains}
use Rattle.std.proofs.Common.{◌≡◌, inl, ℕ, ◌^◌, ◌<◌, ◌≤◌, Bool, true, false, List, [], ◌∷◌, ◌++◌, length, Option, Some, None, refl, sym, ◌∙◌, ap, subst, if◌then◌else◌}
use Rattle.std.proofs.lemmas.Option.{same_Some}
use Rattle.std.specs.List.{AllByRecursion}
use Rattle.flit_words.specs.declared.layouts.Layout.{Layout}
use Rattle.flit_words.specs.Words.{version_of}
use Rattle.flit_model.specs.States.{word_at, shadow_at, IsPersistent}
use Rattle.flit_model.specs.Effects.{after, answer}
use Rattle.flit_model.specs.Settling.{progress_after}
use Rattle.flit_model.specs.declared.events.Event.{Event}
use Rattle.flit_model.specs.declared.events.Event.TheVariants.{Load, Store}
use Rattle.flit_model.specs.declared.calls.Call.{Call}
use Rattle.flit_place.specs.Tags.{Place}
use Rattle.flit_pv.specs.declared.queues.Noted.{Noted}
use Rattle.flit_pv.specs.declared.stores.Storing.{Storing}
use Rattle.flit_pv.specs.declared.stores.Storing.TheVariants.{Reads as Store_reads, Writes, MakesRoom as Store_makes_room, Ended as Store_ended}
use Rattle.flit_pv.specs.declared.stores.Stored.{Stored}
use Rattle.flit_pv.specs.declared.stores.Stored.TheVariants.{Stored as All_stored, Worn}
use Rattle.flit_pv.specs.Queues.{is_full, first_persist, persist_of}
use Rattle.flit_pv.specs.Hands.{with_persist, fenced_one}
use Rattle.flit_pv.specs.Drafts.{draft_read, is_worn}
use Rattle.flit_pv.specs.Stores.{HeldStore, store_asks, store_takes, store_room, store_decides, store_goes_on, worn_at}
use Rattle.flit_runs.specs.Worlds.{Actor}
use Rattle.flit_runs.specs.Workings as run
use Rattle.flit_runs.specs.Workings.{Stores}
use Rattle.flit_runs.specs.Worlds as world
use Rattle.flit_runs.proofs.ExchangeSteps.{around}
use Rattle.flit_runs.proofs.Turns.{safe}
use Rattle.flit_runs.specs.Soundness.{Knows, StoreKnows, MayBeDrafted, MayWriteBack, store_owed}
use Rattle.flit_structure.specs.declared.workers.Worker.{Worker}
use Rattle.flit_structure.specs.Moments.{Moment, with_workers, busy}
use Rattle.flit_structure.specs.Meanings.{first_at}
use Rattle.flit_crew.specs.Machines.{Works, deed_of, machine_takes, part_of}
use Rattle.flit_crew.specs.Anatomies.{op_taken}
use Rattle.flit_crew.specs.Heaps.{Heap}
use Rattle.flit_crew.specs.Fillings.{Filling, FillsAt, AreLoading, AreStoring}
use Rattle.flit_crew.specs.Crews.{Crew, Holds, Facts, Fills, stranger_of}
use Rattle.flit_crew.specs.Obligations.{Keeps}
use Rattle.flit_crew.proofs.Acting.{Split}
use Rattle.flit_crew.proofs.Filling.{fills_read, fills_room, store_limit}
use Rattle.flit_crew.proofs.FactsGoing.{fills_go}
use Rattle.flit_crew.proofs.Going.{me_now, heap, sound_now, facts_now, knows_now, r}
use Rattle.flit_crew.proofs.Reading.{quietly, at_it, further, gone, same_deeds}
use Rattle.flit_crew.proofs.Fencing.{Fences, fences, pairs_now}
use Rattle.flit_crew.proofs.Stepping.{IsOn, fenced_on}
use Rattle.flit_crew.proofs.Storing.{store_step, next_on}
use Rattle.flit_crew.proofs.Trying.{same_le}

none_some : (e : Event) → None ≡ Some e → ⊥
none_some e q = cc

decides_on : (m : HeldStore) (how : Stored) → IsOn m.hand (store_decides m how).hand
decides_on m All_stored = next_on m m.drafts.ready
decides_on m (Worn word version) = record { name = refl; number = refl; spare = refl; ticket = refl }

goes_on : (m : HeldStore) (how : Stored) (values : List ℕ) → IsOn m.hand (store_goes_on m how values).hand
goes_on m how [] = decides_on m how
goes_on m how (v ∷ vs) = record { name = refl; number = refl; spare = refl; ticket = refl }

reads_on : (m : HeldStore) (how : Stored) (told : ℕ) → IsOn m.hand (store_takes (Store_reads how) m told).hand
reads_on m how told =
    let d = draft_read m.drafts told m.drafts.values in
    let h = goes_on (record m { drafts = d }) (if is_worn m.drafts told then worn_at how m.drafts.word (version_of told) else how) d.values in
    record { name = h.name; number = h.number; spare = h.spare; ticket = h.ticket }

room_on : (m : HeldStore) (next : Noted) (queue : List Noted) → IsOn m.hand (store_room m next queue).hand
room_on m next [] = record { name = refl; number = refl; spare = refl; ticket = refl }
room_on m next (n ∷ ns) = record { name = refl; number = refl; spare = refl; ticket = refl }

module _ {G Op : Type 0} (c : Crew G Op) (l : Layout) (p : Place) (free : List ℕ) (keeps : Keeps c l p free) (M : Moment Op) (a : List (Worker Op))
    (name number : ℕ) (op : Op) (call : Call) (begun : Option ℕ) (b : List (Worker Op))
    (holds : Holds c l p free (with_workers M (a ++ busy name number op call begun ∷ b))) (m : HeldStore) (is : c.anatomy.machine op ≡ Works (Stores m)) where
  abbrev K : ℕ
  K = length M.progress.settled

  abbrev Stepped : Event → Type 0
  Stepped e = Holds c l p free (record M {
    state = after M.state e;
    progress = progress_after M.progress M.state e None;
    workers =
        a ++ busy name number (op_taken c.anatomy p free op (answer M.state e)) call (Some (first_at K begun)) ∷ b;
  })

  abbrev mine : Split c l p free (heap c l p free keeps M a name number op call begun b holds K (same_le K)) a (busy name number op call begun) b holds.actors
  mine = r c l p free keeps M a name number op call begun b holds K (same_le K)

  -- those before it in the world
  abbrev front : List Actor
  front = stranger_of holds.stranger ∷ mine.before

  abbrev here : Heap G
  here = heap c l p free keeps M a name number op call begun b holds K (same_le K)

  -- what is filled so far
  filled : Fills c l p free here op m
  filled = subst (Facts c l p free here (me_now c l p free keeps M a name number op call begun b holds K (same_le K) mine.actor) op) is
      (facts_now c l p free keeps M a name number op call begun b holds K (same_le K))

  loading : (how : Stored) → m.at ≡ Store_reads how → AreLoading l here (c.anatomy.storing op) how m
  loading how at = subst (λ x. FillsAt l here (c.anatomy.storing op) x m) at filled.filled

  drafted : (how : Stored) → m.at ≡ Store_reads how → MayBeDrafted M.state mine.actor.private m.drafts
  drafted how at = (subst (λ x. StoreKnows M.state mine.actor.private x m) at
      (subst (Knows p (λ x. false) M.state (around (world.writings front) (run.writing_at mine.actor.at) (world.writings mine.behind)) mine.actor.private)
      (at_it c l p free keeps M a name number op call begun b holds K (same_le K) (Stores m) is)
      (safe p (λ x. false) M.state front mine.actor mine.behind
      (sound_now c l p free keeps M a name number op call begun b holds K (same_le K))).knows)).0

  values_small : (v : ℕ) (vs : List ℕ) → m.drafts.values ≡ v ∷ vs → AllByRecursion (λ x. x < 2 ^ 32) m.drafts.values → v < 2 ^ 32
  values_small v vs e all = (subst (AllByRecursion (λ x. x < 2 ^ 32)) e all).0

  -- a word that is to be loaded is persistent
  persistent_now : (v : ℕ) (vs : List ℕ) → m.drafts.values ≡ v ∷ vs →
      AllByRecursion (λ w. Contains mine.actor.private w × IsPersistent M.state w (version_of (word_at M.state w)))
      (run.words_from m.drafts.word m.drafts.values) → version_of (word_at M.state m.drafts.word) ≤ version_of (shadow_at M.state m.drafts.word)
  persistent_now v vs e all = (subst (λ xs. AllByRecursion (λ w. Contains mine.actor.private w × IsPersistent M.state w (version_of (word_at M.state w)))
      (run.words_from m.drafts.word xs)) e all).0.1

  -- it loads a word of its own
  store_loads : (how : Stored) → m.at ≡ Store_reads how → Stepped (Load m.drafts.word)
  store_loads how at =
      let e : Event = Load m.drafts.word in
      let told : ℕ = word_at M.state m.drafts.word in
      quietly c l p free keeps M a name number op call begun b holds K (same_le K) (Stores m) is e [] (ap (λ x. store_asks x m) at) tt holds.words holds.slots
      refl
      (subst (λ x. IsOn m.hand (store_takes x m told).hand) (sym at) (reads_on m how told)) tt tt
      refl (same_deeds c l p free keeps M a name number op call begun b holds K (same_le K) (Works (run.takes p (Stores m) told))
      (told, ap (λ x. machine_takes p free x told) (sym is)) (sym (ap deed_of is)))
      (fills_go c l p free keeps op m (store_takes m.at m told) (told, ap (λ x. machine_takes p free x told) (sym is)) is
      (subst (λ x. IsOn m.hand (store_takes x m told).hand) (sym at) (reads_on m how told)).spare (store_limit m.at m told) here here
      (subst (λ x. FillsAt l here (c.anatomy.storing op) (store_takes x m told).at (store_takes x m told)) (sym at)
      (fills_read l here (c.anatomy.storing op) m how told (loading how at)
      (values_small (loading how at).value (loading how at).rest (loading how at).to_load (drafted how at).values)
      (persistent_now (loading how at).value (loading how at).rest (loading how at).to_load (drafted how at).words) filled.limit)) filled)
      (keeps.steady _ (me_now c l p free keeps M a name number op call begun b holds K (same_le K)
      (r c l p free keeps M a name number op call begun b holds K (same_le K)).actor)
      (me_now c l p free keeps M a name number op call begun b holds K (same_le K)
      (gone c l p free keeps M a name number op call begun b holds K (same_le K) e []))
      op (Works (run.takes p (Stores m) told)) (told, ap (λ x. machine_takes p free x told) (sym is)) holds.kept
      (further c l p free keeps M a name number op call begun b holds K (same_le K) e []) (sym (ap part_of is))
      (knows_now c l p free keeps M a name number op call begun b holds K (same_le K)))

  -- it makes room in its queue
  store_fences : (n : Noted) → MayWriteBack (λ x. false) M.state n → store_asks m.at m ≡ Some (persist_of n) →
      ((told : ℕ) → store_takes m.at m told ≡ store_takes m.at m 0) → IsOn m.hand (store_takes m.at m 0).hand →
      ((h : Heap G) (f : Filling) → FillsAt l h f m.at m → FillsAt l h f (store_takes m.at m 0).at (store_takes m.at m 0)) →
      Fences c l p free keeps M a name number op call begun b holds (Stores m) n.word n.kept
  store_fences n pair asks deaf hand fills = record {
    asks = asks;
    had = pair.had;
    below = subst (λ x. n.word < x) holds.words pair.plain.0;
    deaf = λ told. ap Stores (deaf told);
    hand = hand;
    goes = λ h o. tt;
    reading = refl;
    deeds = inl refl;
    facts = λ h me you on x. fills_go c l p free keeps op m (store_takes m.at m 0) (0, ap (λ y. machine_takes p free y 0) (sym is)) is hand.spare
        (store_limit m.at m 0) h h (fills h (c.anatomy.storing op) x.filled) x;
    knows = λ h me you kept on le known. keeps.steady h me you op (Works (run.takes p (Stores m) 0)) (0, ap (λ x. machine_takes p free x 0) (sym is)) kept on
        (sym (ap part_of is)) known;
  }

  owes : (t : Storing) → m.at ≡ t → AllByRecursion (MayWriteBack (λ x. false) M.state) (store_owed t m)
  owes t at = subst (λ x. AllByRecursion (MayWriteBack (λ y. false) M.state) (store_owed x m)) at (pairs_now c l p free keeps M a name number op call begun b
      holds (Stores m) is)

  writes : (n : Noted) → m.at ≡ Writes n → (full : Bool) → is_full m.hand.queue ≡ full → (queue : List Noted) → m.hand.queue ≡ queue → (e : Event) →
      (if full then first_persist queue else Some (Store n.word n.kept)) ≡ Some e → Stepped e
  writes n at false room queue same e q = subst Stepped (same_Some (Store n.word n.kept) e q)
      (store_step c l p free keeps M a name number op call begun b holds m is n at room)
  writes n at true room [] same e q = absurd (none_some e q)
  writes n at true room (x ∷ xs) same e q =
      let pair : MayWriteBack (λ y. false) M.state x = (subst (AllByRecursion (MayWriteBack (λ y. false) M.state)) same (owes (Writes n) at)).0 in
      subst Stepped (same_Some (persist_of x) e q)
      (fences c l p free keeps M a name number op call begun b holds (Stores m) is x.word x.kept (store_fences x pair
      (ap (λ y. store_asks y m) at ∙ ap (λ t. if t then first_persist m.hand.queue else Some (Store n.word n.kept)) room ∙ ap first_persist same)
      (λ told. ap (λ y. store_takes y m told) at ∙ sym (ap (λ y. store_takes y m 0) at))
      (subst (λ y. IsOn m.hand (store_takes y m 0).hand) (sym at)
      (subst (λ t. IsOn m.hand (if t then store_room (record m { hand = fenced_one m.hand m.hand.queue }) n (fenced_one m.hand m.hand.queue).queue
      else Rattle.flit_pv.specs.Stores.store_next (record m { hand = Rattle.flit_pv.specs.Hands.with_pair m.hand n }) m.drafts.ready).hand) (sym room)
      (roomed n)))
      (λ h f fills. subst (λ y. FillsAt l h f (store_takes y m 0).at (store_takes y m 0)) (sym at)
      (subst (λ t. FillsAt l h f (made_room n t).at (made_room n t)) (sym room)
      (fills_room l h f (record m { hand = fenced_one m.hand m.hand.queue }) n (fenced_one m.hand m.hand.queue).queue
      (same_storing h f n (subst (λ y. FillsAt l h f y m) at fills)))))))
    where
      made_room : Noted → Bool → HeldStore
      made_room n t = if t then store_room (record m { hand = fenced_one m.hand m.hand.queue }) n (fenced_one m.hand m.hand.queue).queue
          else Rattle.flit_pv.specs.Stores.store_next (record m { hand = Rattle.flit_pv.specs.Hands.with_pair m.hand n }) m.drafts.ready

      same_storing : (h : Heap G) (f : Filling) (n : Noted) → AreStoring h f (n ∷ m.drafts.ready) → AreStoring h f (n ∷ m.drafts.ready)
      same_storing h f n x = x

      roomed : (n : Noted) → IsOn m.hand (store_room (record m { hand = fenced_one m.hand m.hand.queue }) n (fenced_one m.hand m.hand.queue).queue).hand
      roomed n =
          let f = fenced_on m.hand m.hand.queue in
          let g = room_on (record m { hand = fenced_one m.hand m.hand.queue }) n (fenced_one m.hand m.hand.queue).queue in
          record { name = g.name ∙ f.name; number = g.number ∙ f.number; spare = g.spare ∙ f.spare; ticket = g.ticket ∙ f.ticket }

  pub store_steps : (t : Storing) → m.at ≡ t → (e : Event) → store_asks t m ≡ Some e → Stepped e
  store_steps (Store_reads how) at e q = subst Stepped (same_Some (Load m.drafts.word) e q) (store_loads how at)
  store_steps (Writes n) at e q = writes n at (is_full m.hand.queue) refl m.hand.queue refl e q
  store_steps (Store_makes_room next first) at e q = subst Stepped (same_Some (persist_of first) e q)
      (fences c l p free keeps M a name number op call begun b holds (Stores m) is first.word first.kept
      (store_fences first (owes (Store_makes_room next first) at).0 (ap (λ y. store_asks y m) at)
      (λ told. ap (λ y. store_takes y m told) at ∙ sym (ap (λ y. store_takes y m 0) at))
      (subst (λ y. IsOn m.hand (store_takes y m 0).hand) (sym at) (let g = room_on (record m { hand = with_persist m.hand }) next m.hand.queue in
      record { name = g.name; number = g.number; spare = g.spare; ticket = g.ticket }))
      (λ h f fills. subst (λ y. FillsAt l h f (store_takes y m 0).at (store_takes y m 0)) (sym at)
      (fills_room l h f (record m { hand = with_persist m.hand }) next m.hand.queue (subst (λ y. FillsAt l h f y m) at fills)))))
  store_steps (Store_ended how) at e q = absurd (none_some e q)
