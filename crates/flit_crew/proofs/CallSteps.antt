-- Each event of a call, whatever its machine.
use Rattle.std.proofs.Common.{◌≡◌, inl, ℕ, ◌<◌, ◌&&◌, Bool, true, false, List, [], ◌∷◌, ◌++◌, length, Option, Some, None, refl, sym, ◌∙◌, ap, subst, if◌then◌else◌}
use Rattle.std.proofs.lemmas.Option.{same_Some}
use Rattle.std.specs.List.{AllByRecursion}
use Rattle.flit_words.specs.declared.layouts.Layout.{Layout}
use Rattle.flit_words.specs.Words.{bare_of}
use Rattle.flit_model.specs.States.{word_at}
use Rattle.flit_model.specs.Effects.{after, answer}
use Rattle.flit_model.specs.Settling.{progress_after}
use Rattle.flit_model.specs.declared.events.Event.{Event}
use Rattle.flit_model.specs.declared.events.Event.TheVariants.{Load, ReadTag, Persist, Draw}
use Rattle.flit_model.specs.declared.calls.Call.{Call}
use Rattle.flit_model.specs.declared.calls.Entry.{Entry}
use Rattle.flit_place.specs.Tags.{Place}
use Rattle.flit_pv.specs.declared.queues.Noted.{Noted}
use Rattle.flit_pv.specs.declared.loads.Loading.{Loading}
use Rattle.flit_pv.specs.declared.loads.Loading.TheVariants.{Reads as Load_reads, Asks, MakesRoom as Load_makes_room, Has}
use Rattle.flit_pv.specs.declared.v_loads.VLoading.{VLoading}
use Rattle.flit_pv.specs.declared.v_loads.VLoading.TheVariants.{Reads as V_reads, Has as V_has}
use Rattle.flit_pv.specs.declared.v_exchanges.VExchanging.{VExchanging}
use Rattle.flit_pv.specs.declared.v_exchanges.VExchanging.TheVariants.{Tries as V_tries, Ended as V_ended}
use Rattle.flit_pv.specs.declared.evicts.Evict.{Evict}
use Rattle.flit_pv.specs.declared.evicts.Evicting.{Evicting}
use Rattle.flit_pv.specs.declared.evicts.Evicting.TheVariants.{Reads as Evict_reads, WritesBack as Evict_writes_back, Done as Evict_done}
use Rattle.flit_pv.specs.Evicts.{evict_asks, evict_takes}
use Rattle.flit_pv.specs.Loads.{HeldLoad, load_asks}
use Rattle.flit_pv.specs.VLoads.{HeldVLoad, v_load_asks}
use Rattle.flit_pv.specs.VExchanges.{HeldVExchange, v_exchange_asks}
use Rattle.flit_pv.specs.Fences.{HeldFence, HeldComplete, fence_taken}
use Rattle.flit_pv.specs.Queues.{first_persist, persist_of}
use Rattle.flit_rows.specs.declared.take_row.Taking.{Taking}
use Rattle.flit_rows.specs.declared.take_row.Taking.TheVariants.{Draws, Ended as Take_ended}
use Rattle.flit_rows.specs.Taking.{HeldTake, take_asks}
use Rattle.flit_runs.specs.Worlds.{Actor}
use Rattle.flit_runs.specs.Workings as run
use Rattle.flit_runs.specs.Workings.{Working, Idles, Loads, VLoads, Confirms, Exchanges, VExchanges, Stores, Fences, Completes, Evicts}
use Rattle.flit_runs.specs.Worlds as world
use Rattle.flit_runs.specs.Soundness.{Knows, SwapKnows, EvictKnows, MayWriteBack}
use Rattle.flit_runs.proofs.ExchangeSteps.{around}
use Rattle.flit_runs.proofs.Turns.{safe}
use Rattle.flit_structure.specs.declared.workers.Worker.{Worker}
use Rattle.flit_structure.specs.Moments.{Moment, with_workers, busy, update_of}
use Rattle.flit_structure.specs.Meanings.{first_at}
use Rattle.flit_crew.specs.Machines.{Machine, Works, Takes, deed_of, machine_asks, machine_exchanges, machine_takes, part_of}
use Rattle.flit_crew.specs.Anatomies.{op_taken}
use Rattle.flit_crew.specs.Crews.{Crew, Holds, stranger_of}
use Rattle.flit_crew.specs.Obligations.{Keeps}
use Rattle.flit_crew.proofs.Acting.{Split}
use Rattle.flit_crew.proofs.Going.{r, heap, me_now, sound_now, knows_now}
use Rattle.flit_crew.proofs.Reading.{at_it, further, gone, quietly, same_deeds, v_loads, p_loads, p_asks}
use Rattle.flit_crew.proofs.Stepping.{IsOn, fenced_on}
use Rattle.flit_crew.proofs.Fencing.{Fences as IsFence, fences, completes, pairs_now}
use Rattle.flit_crew.proofs.Confirming.{confirm_step, load_fences}
use Rattle.flit_crew.proofs.Exchanging.{step}
use Rattle.flit_crew.proofs.Drawing.{draw_step}
use Rattle.flit_crew.proofs.StoreSteps.{store_steps}
use Rattle.flit_crew.proofs.Trying.{same_le}

none_some : (e : Event) → None ≡ Some e → ⊥
none_some e q = cc

module _ {G Op : Type 0} (c : Crew G Op) (l : Layout) (p : Place) (free : List ℕ) (keeps : Keeps c l p free) (M : Moment Op) (a : List (Worker Op))
    (name number : ℕ) (op : Op) (call : Call) (begun : Option ℕ) (b : List (Worker Op))
    (holds : Holds c l p free (with_workers M (a ++ busy name number op call begun ∷ b))) where
  abbrev K : ℕ
  K = length M.progress.settled

  abbrev pub StepsTo : Event → Option Entry → Type 0
  StepsTo e effect = Holds c l p free (record M {
    state = after M.state e;
    progress = progress_after M.progress M.state e effect;
    workers =
        a ++ busy name number (op_taken c.anatomy p free op (answer M.state e)) call (Some (first_at K begun)) ∷ b;
  })

  abbrev pub effect_if_now : Bool → Option Entry
  effect_if_now exchanges = if c.anatomy.effects op && exchanges then Some (update_of name number call) else None

  -- what doesn't exchange its word makes no update
  plain : (e : Event) → StepsTo e None → StepsTo e (effect_if_now false)
  plain e h = by_test (c.anatomy.effects op)
    where
      by_test : (t : Bool) → StepsTo e (if t && false then Some (update_of name number call) else None)
      by_test true = h
      by_test false = h

  abbrev mine : Split c l p free (heap c l p free keeps M a name number op call begun b holds K (same_le K)) a (busy name number op call begun) b holds.actors
  mine = r c l p free keeps M a name number op call begun b holds K (same_le K)

  -- those before it in the world
  abbrev front : List Actor
  front = stranger_of holds.stranger ∷ mine.before

  -- what the world knows of its machine
  pub known : (w : Working) → c.anatomy.machine op ≡ Works w → Knows p (λ x. false) M.state
      (around (world.writings front) (run.writing_at mine.actor.at) (world.writings mine.behind)) mine.actor.private w
  known w is = subst (Knows p (λ x. false) M.state (around (world.writings front) (run.writing_at mine.actor.at) (world.writings mine.behind))
      mine.actor.private) (at_it c l p free keeps M a name number op call begun b holds K (same_le K) w is)
      (safe p (λ x. false) M.state front mine.actor mine.behind (sound_now c l p free keeps M a name number op call begun b holds K (same_le K))).knows

  loads : (m : HeldLoad) → c.anatomy.machine op ≡ Works (Loads m) → (t : Loading) → m.at ≡ t → (e : Event) → load_asks t m ≡ Some e → StepsTo e None
  loads m is Load_reads at e q = subst (λ x. StepsTo x None) (same_Some (Load m.word) e q)
      (p_loads c l p free keeps M a name number op call begun b holds K (same_le K) m is at)
  loads m is (Asks raw slot) at e q = subst (λ x. StepsTo x None) (same_Some (ReadTag slot) e q)
      (p_asks c l p free keeps M a name number op call begun b holds K (same_le K) m raw slot is at)
  loads m is (Load_makes_room raw first) at e q = subst (λ x. StepsTo x None) (same_Some (persist_of first) e q)
      (fences c l p free keeps M a name number op call begun b holds (Loads m) is first.word first.kept
      (load_fences c l p free keeps M a name number op call begun b holds m is raw first at))
  loads m is (Has raw) at e q = absurd (none_some e q)

  v_loads_so : (m : HeldVLoad) → c.anatomy.machine op ≡ Works (VLoads m) → (t : VLoading) → m.at ≡ t → (e : Event) → v_load_asks t m ≡ Some e → StepsTo e None
  v_loads_so m is V_reads at e q = subst (λ x. StepsTo x None) (same_Some (Load m.word) e q)
      (v_loads c l p free keeps M a name number op call begun b holds K (same_le K) m is at)
  v_loads_so m is (V_has raw) at e q = absurd (none_some e q)

  -- no word is a v-word
  swaps : (m : HeldVExchange) → c.anatomy.machine op ≡ Works (VExchanges m) → (t : VExchanging) → m.at ≡ t → (e : Event) → v_exchange_asks t m ≡ Some e →
      StepsTo e None
  swaps m is V_tries at e q = absurd (clash (subst (λ x. SwapKnows (λ y. false) M.state x m) at (known (VExchanges m) is)).volatile)
    where
      clash : false ≡ true → ⊥
      clash z = cc
  swaps m is (V_ended how) at e q = absurd (none_some e q)

  fences_so : (m : HeldFence) → c.anatomy.machine op ≡ Works (Fences m) → (queue : List Noted) → m.hand.queue ≡ queue → (e : Event) →
      first_persist queue ≡ Some e → StepsTo e None
  fences_so m is [] same e q = absurd (none_some e q)
  fences_so m is (n ∷ ns) same e q =
      let pair : MayWriteBack (λ x. false) M.state n = (subst (AllByRecursion (MayWriteBack (λ x. false) M.state)) same
      (pairs_now c l p free keeps M a name number op call begun b holds (Fences m) is)).0 in
      let f : IsFence c l p free keeps M a name number op call begun b holds (Fences m) n.word n.kept = record {
        asks = ap first_persist same;
        had = pair.had;
        below = subst (λ x. n.word < x) holds.words pair.plain.0;
        deaf = λ told. refl;
        hand = fenced_on m.hand m.hand.queue;
        goes = λ h o. tt;
        reading = refl;
        deeds = inl refl;
        facts = λ h me you on x. tt;
        knows = λ h me you kept on le known. keeps.steady h me you op (Works (Fences (fence_taken m 0))) (0, ap (λ x. machine_takes p free x 0) (sym is)) kept
            on (sym (ap part_of is)) known;
      } in
      subst (λ x. StepsTo x None) (same_Some (persist_of n) e q) (fences c l p free keeps M a name number op call begun b holds (Fences m) is n.word n.kept f)

  completes_so : (m : HeldComplete) → c.anatomy.machine op ≡ Works (Completes m) → (queue : List Noted) → m.fence.hand.queue ≡ queue → (e : Event) →
      first_persist queue ≡ Some e → StepsTo e None
  completes_so m is [] same e q = absurd (none_some e q)
  completes_so m is (n ∷ ns) same e q = subst (λ x. StepsTo x None) (same_Some (persist_of n) e q)
      (fences c l p free keeps M a name number op call begun b holds (Completes m) is n.word n.kept
      (completes c l p free keeps M a name number op call begun b holds m is n ns same))

  evicts_so : (m : Evict) → c.anatomy.machine op ≡ Works (Evicts m) → (t : Evicting) → m.at ≡ t → (e : Event) → evict_asks t m ≡ Some e → StepsTo e None
  evicts_so m is Evict_reads at e q =
      let told : ℕ = word_at M.state m.word in
      subst (λ x. StepsTo x None) (same_Some (Load m.word) e q)
      (quietly c l p free keeps M a name number op call begun b holds K (same_le K) (Evicts m) is (Load m.word) [] (ap (λ x. evict_asks x m) at) tt holds.words
      holds.slots refl
      (subst (λ x. IsOn m.hand (evict_takes x m told).hand) (sym at) (record { name = refl; number = refl; spare = refl; ticket = refl })) tt tt
      refl (same_deeds c l p free keeps M a name number op call begun b holds K (same_le K) (Works (run.takes p (Evicts m) told))
      (told, ap (λ x. machine_takes p free x told) (sym is)) (sym (ap deed_of is))) tt
      (keeps.steady _ (me_now c l p free keeps M a name number op call begun b holds K (same_le K) mine.actor)
      (me_now c l p free keeps M a name number op call begun b holds K (same_le K)
      (gone c l p free keeps M a name number op call begun b holds K (same_le K) (Load m.word) []))
      op (Works (run.takes p (Evicts m) told)) (told, ap (λ x. machine_takes p free x told) (sym is)) holds.kept
      (further c l p free keeps M a name number op call begun b holds K (same_le K) (Load m.word) []) (sym (ap part_of is))
      (knows_now c l p free keeps M a name number op call begun b holds K (same_le K))))
  evicts_so m is (Evict_writes_back raw) at e q =
      let it = subst (λ x. EvictKnows (λ y. false) M.state x m.word) at (known (Evicts m) is) in
      let f : IsFence c l p free keeps M a name number op call begun b holds (Evicts m) m.word (bare_of raw) = record {
        asks = ap (λ x. evict_asks x m) at;
        had = it.1;
        below = subst (λ x. m.word < x) holds.words it.0;
        deaf = λ told. ap (λ x. Evicts (evict_takes x m told)) at ∙ sym (ap (λ x. Evicts (evict_takes x m 0)) at);
        hand = subst (λ x. IsOn m.hand (evict_takes x m 0).hand) (sym at) (record { name = refl; number = refl; spare = refl; ticket = refl });
        goes = λ h o. tt;
        reading = refl;
        deeds = inl refl;
        facts = λ h me you on x. tt;
        knows = λ h me you kept on le known. keeps.steady h me you op (Works (run.takes p (Evicts m) 0)) (0, ap (λ x. machine_takes p free x 0) (sym is)) kept
            on (sym (ap part_of is)) known;
      } in
      subst (λ x. StepsTo x None) (same_Some (Persist m.word (bare_of raw)) e q)
      (fences c l p free keeps M a name number op call begun b holds (Evicts m) is m.word (bare_of raw) f)
  evicts_so m is Evict_done at e q = absurd (none_some e q)

  takes : (m : HeldTake) → c.anatomy.machine op ≡ Takes m → (t : Taking) → m.at ≡ t → (e : Event) → take_asks t ≡ Some e → StepsTo e None
  takes m is Draws at e q = subst (λ x. StepsTo x None) (same_Some Draw e q) (draw_step c l p free keeps M a name number op call begun b holds m is at)
  takes m is (Take_ended took) at e q = absurd (none_some e q)

  pub call_step : (m : Machine) → c.anatomy.machine op ≡ m → (e : Event) → machine_asks p m ≡ Some e → StepsTo e (effect_if_now (machine_exchanges p m))
  call_step (Works (Idles hand)) is e q = absurd (none_some e q)
  call_step (Works (Loads m)) is e q = plain e (loads m is m.at refl e q)
  call_step (Works (VLoads m)) is e q = plain e (v_loads_so m is m.at refl e q)
  call_step (Works (Confirms m)) is e q = plain e (confirm_step c l p free keeps M a name number op call begun b holds m is m.at refl e q)
  call_step (Works (Exchanges m)) is e q = step c l p free keeps M a name number op call begun b holds m is m.at refl e q
  call_step (Works (VExchanges m)) is e q = plain e (swaps m is m.at refl e q)
  call_step (Works (Stores m)) is e q = plain e (store_steps c l p free keeps M a name number op call begun b holds m is m.at refl e q)
  call_step (Works (Fences m)) is e q = plain e (fences_so m is m.hand.queue refl e q)
  call_step (Works (Completes m)) is e q = plain e (completes_so m is m.fence.hand.queue refl e q)
  call_step (Works (Evicts m)) is e q = plain e (evicts_so m is m.at refl e q)
  call_step (Takes m) is e q = plain e (takes m is m.at refl e q)
