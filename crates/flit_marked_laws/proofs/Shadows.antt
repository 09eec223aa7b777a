-- What an event leaves of a shadow: what it was, or what the word holds.
use Rattle.std.proofs.Common.{◌≡◌, ◌⊎◌, inl, inr, ⊎_elim, ℕ, ◌<◌, ◌==◌, ◌&&◌, Bool, true, false, List, [], ◌∷◌, ◌++◌, length, Option, Some, None, refl, sym, ◌∙◌, ap, subst, max, if◌then◌else◌}
use Rattle.std.proofs.lemmas.Option.{none-some, same_Some}
use Rattle.std.specs.List.{AllByRecursion}
use Rattle.flit_words.specs.declared.layouts.Layout.{Layout}
use Rattle.flit_words.specs.Words.{bare_of}
use Rattle.flit_model.specs.States.{State, word_at, shadow_at}
use Rattle.flit_model.specs.Effects.{after, with_word}
use Rattle.flit_model.specs.declared.events.Event.{Event}
use Rattle.flit_model.specs.declared.events.Event.TheVariants.{Load, ReadTag, Raise, Lower, Exchange, Persist, Store, Draw}
use Rattle.flit_model.specs.declared.calls.Call.{Call}
use Rattle.flit_place.specs.Tags.{Place, shown}
use Rattle.flit_place.proofs.CoverSteps.{index-set}
use Rattle.flit_pv.specs.declared.queues.Noted.{Noted}
use Rattle.flit_pv.specs.Queues.{is_full, first_persist, persist_of}
use Rattle.flit_pv.specs.VLoads.{HeldVLoad, v_load_asks}
use Rattle.flit_pv.specs.declared.v_loads.VLoading.{VLoading}
use Rattle.flit_pv.specs.declared.v_loads.VLoading.TheVariants.{Reads as V_reads, Has as V_has}
use Rattle.flit_pv.specs.Confirms.{HeldConfirm, confirm_asks, confirm_begins}
use Rattle.flit_pv.specs.declared.confirms.Confirming.{Confirming}
use Rattle.flit_pv.specs.declared.confirms.Confirming.TheVariants.{Begins, MakesRoom as Confirm_makes_room, Done}
use Rattle.flit_pv.specs.Stores.{HeldStore, store_asks}
use Rattle.flit_pv.specs.declared.stores.Storing.{Storing}
use Rattle.flit_pv.specs.declared.stores.Storing.TheVariants.{Reads as Store_reads, MakesRoom as Store_makes_room, Writes, Ended as Store_ended}
use Rattle.flit_pv.specs.Exchanges.{HeldExchange, exchange_asks, ready_asks, withdraw_asks}
use Rattle.flit_pv.specs.declared.exchanges.Exchanging.{Exchanging}
use Rattle.flit_pv.specs.declared.exchanges.Exchanging.TheVariants.{Ready, Tries, TriesBare, WritesBack, Withdraws, Lowers, Ended}
use Rattle.flit_pv.specs.Evicts.{evict_asks}
use Rattle.flit_pv.specs.declared.evicts.Evict.{Evict}
use Rattle.flit_pv.specs.declared.evicts.Evicting.{Evicting}
use Rattle.flit_pv.specs.declared.evicts.Evicting.TheVariants.{Reads as Evict_reads, WritesBack as Evict_writes_back, Done as Evict_done}
use Rattle.flit_rows.specs.declared.take_row.Taking.{Taking}
use Rattle.flit_rows.specs.declared.take_row.Taking.TheVariants.{Draws, Ended as Take_ended}
use Rattle.flit_rows.specs.Taking.{take_asks}
use Rattle.flit_runs.specs.Workings.{writing_at, Confirms, Exchanges, Stores, Completes}
use Rattle.flit_runs.specs.Worlds.{Actor, HasHad, writings}
use Rattle.flit_runs.specs.Soundness.{MayWriteBack, Knows, EvictKnows, confirm_owed, exchange_owed, store_owed}
use Rattle.flit_runs.proofs.ExchangeSteps.{around}
use Rattle.flit_runs.proofs.Growth.{shadow-after}
use Rattle.flit_runs.proofs.Turns.{safe}
use Rattle.flit_structure.specs.declared.workers.Doing.{Doing}
use Rattle.flit_structure.specs.declared.workers.Doing.TheVariants.{Idle, Busy, Evicting as Evicts_word}
use Rattle.flit_structure.specs.declared.workers.Worker.{Worker}
use Rattle.flit_structure.specs.Moments.{Moment, busy, sweeper, with_workers}
use Rattle.flit_structure.specs.Meanings.{asks, asked_by}
use Rattle.flit_structure.specs.Lawful.{HoldsWith}
use Rattle.flit_crew.specs.Machines.{machine_asks}
use Rattle.flit_crew.specs.Crews.{Crew, stranger_of}
use Rattle.flit_crew.specs.Obligations.{Keeps}
use Rattle.flit_crew.proofs.Acting.{Split}
use Rattle.flit_crew.proofs.Moving.{h, mine, is_sound}
use Rattle.flit_crew.proofs.Fencing.{pairs_now}
use Rattle.flit_list_steps.specs.Operations.{At, Head, Next, Key, Confirming as Confirms_word, Help, Row, Words, RowValue, Link, Mark, Tidy, Value, Ends, Rests, HeldOp}
use Rattle.flit_list_laws.specs.ListAnatomy.{machine_at}
use Rattle.flit_list_laws.specs.ListCrew.{list_crew, IsOfLists}
use Rattle.flit_list_laws.proofs.Keeping.{lists_keep}
use Rattle.flit_list_structure.specs.ListStructure.{lists}
use Rattle.flit_list_structure.proofs.Lawfulness.{list_lawful}

same_persist : (a b x y : ℕ) → Persist a b ≡ Persist x y → (a ≡ x) × (b ≡ y)
same_persist a b x y e = (let i : a ≡ x = cc in i, let i : b ≡ y = cc in i)

-- ---- a pair that a machine writes back is one that it owes

module _ (s : State) (word kept : ℕ) where
  abbrev Had : Type 0
  Had = HasHad (λ x. false) s word kept

  abbrev May : Noted → Type 0
  May n = MayWriteBack (λ x. false) s n

  abbrev E : Event
  E = Persist word kept

  from_pair : (n : Noted) → persist_of n ≡ E → May n → Had
  from_pair n same may =
      let r = same_persist n.word n.kept word kept same in
      subst (λ w. HasHad (λ x. false) s w kept) r.0 (subst (λ k. HasHad (λ x. false) s n.word k) r.1 may.had)

  first_had : (queue : List Noted) → first_persist queue ≡ Some E → AllByRecursion May queue → Had
  first_had [] q all = absurd (none-some E q)
  first_had (n ∷ ns) q all = from_pair n (same_Some (persist_of n) E q) all.0

  load_had : (at : VLoading) (m : HeldVLoad) → v_load_asks at m ≡ Some E → Had
  load_had V_reads m q = absurd (cc)
  load_had (V_has raw) m q = absurd (none-some E q)

  confirm_had : (p : Place) (at : Confirming) (m : HeldConfirm) → confirm_asks p at m ≡ Some E → AllByRecursion May (confirm_owed at m) → Had
  confirm_had p Begins m q all = by_slot (p.slot m.word) q
    where
      by_full : (b : Bool) → (if b then first_persist m.hand.queue else None) ≡ Some E → Had
      by_full true k = first_had m.hand.queue k all.1
      by_full false k = absurd (none-some E k)

      by_slot : (slot : Option ℕ) → confirm_begins p m slot ≡ Some E → Had
      by_slot None k = by_full (shown p.counted m.raw None && is_full m.hand.queue) k
      by_slot (Some slot) k = absurd (cc)
  confirm_had p (Confirm_makes_room first) m q all = from_pair first (same_Some (persist_of first) E q) all.0
  confirm_had p Done m q all = absurd (none-some E q)

  store_had : (at : Storing) (m : HeldStore) → store_asks at m ≡ Some E → AllByRecursion May (store_owed at m) → Had
  store_had (Store_reads how) m q all = absurd (cc)
  store_had (Writes next) m q all = by_full (is_full m.hand.queue) q
    where
      by_full : (b : Bool) → (if b then first_persist m.hand.queue else Some (Store next.word next.kept)) ≡ Some E → Had
      by_full true k = first_had m.hand.queue k all
      by_full false k = absurd (cc)
  store_had (Store_makes_room next first) m q all = from_pair first (same_Some (persist_of first) E q) all.0
  store_had (Store_ended how) m q all = absurd (none-some E q)

  exchange_had : (p : Place) (at : Exchanging) (m : HeldExchange) → exchange_asks p at m ≡ Some E → AllByRecursion May (exchange_owed at m) → Had
  exchange_had p Ready m q all = by_queue m.hand.queue (p.slot m.word) (same_Some (ready_asks p m m.hand.queue (p.slot m.word)) E q) all
    where
      by_queue : (queue : List Noted) (slot : Option ℕ) → ready_asks p m queue slot ≡ E → AllByRecursion May queue → Had
      by_queue (n ∷ ns) slot k all = from_pair n k all.0
      by_queue [] (Some slot) k all = absurd (cc)
      by_queue [] None k all = absurd (cc)
  exchange_had p (Tries slot) m q all = absurd (cc)
  exchange_had p TriesBare m q all = absurd (cc)
  exchange_had p WritesBack m q all = from_pair (record { word = m.word; kept = m.to }) (same_Some (Persist m.word m.to) E q) all.0
  exchange_had p Withdraws m q all = by_slot (p.slot m.word) (same_Some (withdraw_asks p m (p.slot m.word)) E q)
    where
      by_slot : (slot : Option ℕ) → withdraw_asks p m slot ≡ E → Had
      by_slot (Some slot) k = absurd (cc)
      by_slot None k = absurd (cc)
  exchange_had p (Lowers slot found) m q all = absurd (cc)
  exchange_had p (Ended how) m q all = absurd (none-some E q)

  take_had : (at : Taking) → take_asks at ≡ Some E → Had
  take_had Draws q = absurd (cc)
  take_had (Take_ended took) q = absurd (none-some E q)

module _ (l : Layout) (p : Place) (free : List ℕ) (chains : IsOfLists l) where
  abbrev C : Crew (ℕ → Bool) HeldOp
  C = list_crew l p free

  abbrev keeps : Keeps C l p free
  keeps = lists_keep.keeps l p free chains

  module _ (M : Moment HeldOp) (a b : List (Worker HeldOp)) (word kept : ℕ) where
    abbrev Mine : Type 0
    Mine = HasHad (λ x. false) M.state word kept

    busy_had : (name number : ℕ) (op : HeldOp) (call : Call) (begun : Option ℕ) →
        HoldsWith (lists l p free) M a (busy name number op call begun) b → machine_asks p (machine_at op.at) ≡ Some (Persist word kept) → Mine
    busy_had name number op call begun holds q = by_phase op.at refl q
      where
        by_phase : (at : At) → op.at ≡ at → machine_asks p (machine_at at) ≡ Some (Persist word kept) → Mine
        by_phase (Head m) is k = load_had M.state word kept m.at m k
        by_phase (Next m) is k = load_had M.state word kept m.at m k
        by_phase (Key m) is k = load_had M.state word kept m.at m k
        by_phase (Confirms_word goal which m) is k = confirm_had M.state word kept p m.at m k
            (pairs_now C l p free keeps M a name number op call begun b holds.0 (Confirms m) (ap machine_at is))
        by_phase (Help m) is k = exchange_had M.state word kept p m.at m k
            (pairs_now C l p free keeps M a name number op call begun b holds.0 (Exchanges m) (ap machine_at is))
        by_phase (Row m) is k = take_had M.state word kept m.at k
        by_phase (Words m) is k = store_had M.state word kept m.at m k
            (pairs_now C l p free keeps M a name number op call begun b holds.0 (Stores m) (ap machine_at is))
        by_phase (RowValue m) is k = store_had M.state word kept m.at m k
            (pairs_now C l p free keeps M a name number op call begun b holds.0 (Stores m) (ap machine_at is))
        by_phase (Link m) is k = exchange_had M.state word kept p m.at m k
            (pairs_now C l p free keeps M a name number op call begun b holds.0 (Exchanges m) (ap machine_at is))
        by_phase (Mark m) is k = exchange_had M.state word kept p m.at m k
            (pairs_now C l p free keeps M a name number op call begun b holds.0 (Exchanges m) (ap machine_at is))
        by_phase (Tidy m) is k = exchange_had M.state word kept p m.at m k
            (pairs_now C l p free keeps M a name number op call begun b holds.0 (Exchanges m) (ap machine_at is))
        by_phase (Value m) is k = load_had M.state word kept m.at m k
        by_phase (Ends m) is k = first_had M.state word kept m.fence.hand.queue k
            (pairs_now C l p free keeps M a name number op call begun b holds.0 (Completes m) (ap machine_at is))
        by_phase (Rests hand) is k = absurd (none-some (Persist word kept) k)

    evict_had : (name number : ℕ) (m : Evict) → HoldsWith (lists l p free) M a (sweeper name number m) b → evict_asks m.at m ≡ Some (Persist word kept) → Mine
    evict_had name number m holds q = by_at m.at refl q
      where
        split : Split C l p free (h C l p free keeps M a (sweeper name number m) b holds.0) a (sweeper name number m) b holds.0.actors
        split = mine C l p free keeps M a (sweeper name number m) b holds.0

        -- those before it in the world
        front : List Actor
        front = stranger_of holds.0.stranger ∷ split.before

        known : EvictKnows (λ x. false) M.state m.at m.word
        known = subst (Knows p (λ x. false) M.state (around (writings front) (writing_at split.actor.at) (writings split.behind)) split.actor.private)
            split.mine.at
            (safe p (λ x. false) M.state front split.actor split.behind (is_sound C l p free keeps M a (sweeper name number m) b holds.0)).knows

        by_at : (at : Evicting) → m.at ≡ at → evict_asks at m ≡ Some (Persist word kept) → Mine
        by_at Evict_reads is k = absurd (cc)
        by_at (Evict_writes_back raw) is k =
            let r = same_persist m.word (bare_of raw) word kept (same_Some (Persist m.word (bare_of raw)) (Persist word kept) k) in
            let had = (subst (λ x. EvictKnows (λ y. false) M.state x m.word) is known).1 in
            subst (λ w. HasHad (λ x. false) M.state w kept) r.0 (subst (λ z. HasHad (λ x. false) M.state m.word z) r.1 had)
        by_at Evict_done is k = absurd (none-some (Persist word kept) k)

    had : (u : Worker HeldOp) → asked_by (lists l p free) u ≡ Some (Persist word kept) → HoldsWith (lists l p free) M a u b → Mine
    had u q holds = by_doing u.name u.number u.doing q holds
      where
        by_doing : (name number : ℕ) (d : Doing HeldOp) → asks (lists l p free) d ≡ Some (Persist word kept) →
            HoldsWith (lists l p free) M a (record { name = name; number = number; doing = d }) b → Mine
        by_doing name number (Idle hand) k hs = absurd (none-some (Persist word kept) k)
        by_doing name number (Busy op call begun) k hs = busy_had name number op call begun hs k
        by_doing name number (Evicts_word m) k hs = evict_had name number m hs k

  -- ---- what a shadow becomes

  abbrev pub Shadow_goes : State → State → ℕ → Type 0
  Shadow_goes s t w = (shadow_at t w ≡ shadow_at s w) ⊎ (shadow_at t w ≡ bare_of (word_at s w))

  pub persist_goes : (M : Moment HeldOp) (holds : (lists l p free).holds M) (word kept w : ℕ) → word < length M.state.shadows →
      HasHad (λ x. false) M.state word kept → Shadow_goes M.state (after M.state (Persist word kept)) w
  persist_goes M holds word kept w below had = ⊎_elim
      (λ i. ⊎_elim (λ same. inl (i.1 ∙ same ∙ ap (shadow_at M.state) (sym i.0))) (λ is. inr (i.1 ∙ is ∙ ap (λ v. bare_of (word_at M.state v)) (sym i.0)))
      (shadow-after (λ x. false) M.state word kept holds.0.sound.words had refl))
      (λ i. inl i.1) (index-set M.state.shadows word (max (shadow_at M.state word) kept) w below)

  pub shadow_goes : (M : Moment HeldOp) (a : List (Worker HeldOp)) (u : Worker HeldOp) (b : List (Worker HeldOp)) (e : Event) (w : ℕ) →
      asked_by (lists l p free) u ≡ Some e → HoldsWith (lists l p free) M a u b → Shadow_goes M.state (after M.state e) w
  shadow_goes M a u b e w q holds = by_event e q
    where
      lost : (word from to : ℕ) (t : Bool) → Shadow_goes M.state (if t then with_word M.state word to else M.state) w
      lost word from to true = inl refl
      lost word from to false = inl refl

      by_event : (x : Event) → asked_by (lists l p free) u ≡ Some x → Shadow_goes M.state (after M.state x) w
      by_event (Load word) k = inl refl
      by_event (ReadTag slot) k = inl refl
      by_event (Raise slot) k = inl refl
      by_event (Lower slot) k = inl refl
      by_event (Exchange word from to) k = lost word from to (word_at M.state word == from)
      by_event (Persist word kept) k = persist_goes (with_workers M (a ++ u ∷ b)) holds word kept w
          (subst (λ n. word < n) (sym holds.0.sound.suits.whole) ((list_lawful l p free chains).allowed M a u b (Persist word kept) k holds).0)
          (had M a b word kept u k holds)
      by_event (Store word to) k = inl refl
      by_event Draw k = inl refl
