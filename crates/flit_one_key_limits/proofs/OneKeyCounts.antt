-- The counts of a call, and its spare rows, go on as its machine's, but for a search that begins and a row that is linked.
use Rattle.std.proofs.Common.{◌≡◌, ◌⊎◌, inl, inr, ⊎_elim, ℕ, ◌+◌, ◌-◌, ◌^◌, ◌≤◌, ◌&&◌, min, Bool, true, false, List, is_none, refl, sym, ◌∙◌, ap, subst, arith}
use Rattle.std.proofs.lemmas.Bool.{false≢true}
use Rattle.std.specs.Prelude.{Contains}
use Rattle.flit_words.specs.declared.layouts.Layout.{Layout}
use Rattle.flit_model.specs.declared.calls.Call.{Call}
use Rattle.flit_model.specs.declared.calls.Call.TheVariants.{Insert, Remove, Contains as Contains_call, Get}
use Rattle.flit_model.specs.declared.calls.Tally.{Tally}
use Rattle.flit_place.specs.Tags.{Place}
use Rattle.flit_pv.specs.declared.hands.Hand.{Hand}
use Rattle.flit_pv.specs.Tallies.{IsTally}
use Rattle.flit_pv.specs.Loads.{load_taken}
use Rattle.flit_pv.specs.VLoads.{v_load_taken}
use Rattle.flit_pv.specs.Stores.{store_taken}
use Rattle.flit_pv.specs.Exchanges.{HeldExchange, exchange_taken}
use Rattle.flit_pv.specs.Fences.{complete_asked, complete_taken}
use Rattle.flit_pv.specs.declared.exchanges.Exchanging.{Exchanging}
use Rattle.flit_pv.specs.declared.exchanges.Exchanging.TheVariants.{Ready, Tries, TriesBare, WritesBack, Withdraws, Lowers, Ended}
use Rattle.flit_pv.specs.declared.exchanges.Exchanged.TheVariants.{Won, Lost, Worn}
use Rattle.flit_pv.proofs.Asking.{has_won}
use Rattle.flit_rows.specs.Taking.{take_taken}
use Rattle.flit_structure.specs.Lawful.{AreSpareIn, is_insert}
use Rattle.flit_crew.specs.Machines.{Machine, machine_takes, hand_in, has_ended, exchange_deed, has_linked}
use Rattle.flit_crew.specs.Anatomies.{Anatomy}
use Rattle.flit_crew_bounds.specs.Counting.{GoesOnWith, tally_of, HasLinkedBy, KeepsCounts}
use Rattle.flit_one_key.specs.Operations.{At, Head, Key, Value, Row, Words, RowValue, Link, Ends, Rests, HeldOp}
use Rattle.flit_one_key.specs.Steps.{with_search, hand_linked, link_by, hand_at}
use Rattle.flit_one_key_crew.specs.OneKeyAnatomy.{machine_at, resumed, one_key_anatomy}
use Rattle.flit_one_key_crew.specs.OneKeyCrew.{one_key_crew}
use Rattle.flit_one_key_limits.proofs.Carrying.{Tallied, link_tallied, link_spare, value_stored, words_stored, row_taken_so, value_loaded, key_loaded, head_loaded}

-- ---- tallies

goes_same : (t : Tally) → IsTally t → GoesOnWith t t
goes_same t h = record {
  within = h;
  loads = same t.loads;
  omitted = same t.omitted;
  queued = same t.queued;
  split = λ k. k;
  persists = refl;
  failed = refl;
  helped = inl refl;
  tries = inl refl;
}
  where
    same : (n : ℕ) → n ≤ n
    same n = omega arith

goes_searching : (h : Hand) → IsTally h.tally → GoesOnWith h.tally (with_search h).tally
goes_searching h t = record {
  within = record {
    loads = t.loads;
    omitted = t.omitted;
    queued = t.queued;
    persists = t.persists;
    failed = t.failed;
    helped = t.helped;
    tries = top h.tally.tries;
  };
  loads = same h.tally.loads;
  omitted = same h.tally.omitted;
  queued = same h.tally.queued;
  split = λ k. k;
  persists = refl;
  failed = refl;
  helped = inl refl;
  tries = inr refl;
}
  where
    same : (n : ℕ) → n ≤ n
    same n = omega arith

    top : (n : ℕ) → min (n + 1) (2 ^ 64 - 1) ≤ 2 ^ 64 - 1
    top n = omega arith

pub same_hand : (at : At) → hand_in (machine_at at) ≡ hand_at at
same_hand (Head m) = refl
same_hand (Key head m) = refl
same_hand (Value m) = refl
same_hand (Row head m) = refl
same_hand (Words head m) = refl
same_hand (RowValue head m) = refl
same_hand (Link m) = refl
same_hand (Ends m) = refl
same_hand (Rests hand) = refl

tallied_goes : (hand : Hand) (at : At) → IsTally hand.tally → Tallied hand at → GoesOnWith hand.tally (hand_in (machine_at at)).tally
tallied_goes hand at t h = ⊎_elim
    (λ e. subst (GoesOnWith hand.tally) (sym (ap (λ x. x.tally) (same_hand at) ∙ e)) (goes_same hand.tally t))
    (λ e. subst (GoesOnWith hand.tally) (sym (ap (λ x. x.tally) (same_hand at) ∙ e)) (goes_searching hand t)) h

spare_goes : (hand : Hand) (at : At) → (hand_at at).spare ≡ hand.spare → AreSpareIn (hand_in (machine_at at)) hand
spare_goes hand at e row some has = subst (λ xs. Contains xs row) (sym (ap (λ x. x.spare) (same_hand at) ∙ e)) has

pub and_false : (b : Bool) → (b && false) ≡ true → ⊥
and_false true q = false≢true q
and_false false q = false≢true q

module _ (l : Layout) (p : Place) (free : List ℕ) (op : HeldOp) (told : ℕ) where
  abbrev A : Anatomy HeldOp
  A = one_key_anatomy l free

  abbrev at_it : At → HeldOp
  at_it at = record op { at = at }

  abbrev m_at : At → Machine
  m_at at = machine_takes p free (machine_at at) told

  abbrev next_at : At → At
  next_at at = (resumed l free (at_it at) (m_at at)).at

  tallies_at : (at : At) → has_ended p (m_at at) ≡ true → IsTally (hand_in (m_at at)).tally →
      GoesOnWith (hand_in (m_at at)).tally (hand_in (machine_at (next_at at))).tally
  tallies_at (Head m) ended t = let n = load_taken p m told in
      tallied_goes n.hand (next_at (Head m)) t (head_loaded l free (at_it (Head n)) n n.at).tally
  tallies_at (Key head m) ended t = let n = v_load_taken m told in
      tallied_goes n.hand (next_at (Key head m)) t (key_loaded l free (at_it (Key head n)) head n n.at).tally
  tallies_at (Value m) ended t = let n = v_load_taken m told in
      tallied_goes n.hand (next_at (Value m)) t (value_loaded l free (at_it (Value n)) n n.at).tally
  tallies_at (Row head m) ended t = let n = take_taken free m told in
      tallied_goes n.hand (next_at (Row head m)) t (row_taken_so l free (at_it (Row head n)) head n n.at).tally
  tallies_at (Words head m) ended t = let n = store_taken m told in
      tallied_goes n.hand (next_at (Words head m)) t (words_stored l free (at_it (Words head n)) head n n.at).tally
  tallies_at (RowValue head m) ended t = let n = store_taken m told in
      tallied_goes n.hand (next_at (RowValue head m)) t (value_stored l free (at_it (RowValue head n)) head n n.at).tally
  tallies_at (Link m) ended t = let n = exchange_taken p m told in
      tallied_goes n.hand (next_at (Link m)) t (link_tallied l free (at_it (Link n)) n n.at)
  tallies_at (Ends m) ended t = absurd (and_false (is_none (complete_asked (complete_taken m told))) ended)
  tallies_at (Rests hand) ended t = goes_same hand.tally t

  abbrev Spares : At → Type 0
  Spares at = AreSpareIn (hand_in (machine_at (next_at at))) (hand_in (m_at at)) ⊎ HasLinkedBy A (at_it at) (m_at at)

  -- a row leaves the spare ones where an insert's exchange was won
  unwon : (m : HeldExchange) → has_won (exchange_taken p m told).at ≡ false → Spares (Link m)
  unwon m q = inl (spare_goes (exchange_taken p m told).hand (next_at (Link m))
      (link_spare l free (at_it (Link (exchange_taken p m told))) (exchange_taken p m told) (exchange_taken p m told).at q))

  kept : (m : HeldExchange) (c : Call) → (exchange_taken p m told).at ≡ Ended Won → op.call ≡ c → ((hand : Hand) → (hand_linked c hand).spare ≡ hand.spare) →
      Spares (Link m)
  kept m c is call same = inl (spare_goes (exchange_taken p m told).hand (next_at (Link m))
      (ap (λ y. (hand_at (link_by (at_it (Link (exchange_taken p m told))) (exchange_taken p m told) y).at).spare) is
      ∙ ap (λ y. (hand_linked y (exchange_taken p m told).hand).spare) call ∙ same (exchange_taken p m told).hand))

  link_spares : (m : HeldExchange) (x : Exchanging) → (exchange_taken p m told).at ≡ x → (c : Call) → op.call ≡ c → Spares (Link m)
  link_spares m (Ended Won) is (Insert k v) call = inr (record {
    effects = refl;
    insert = ap is_insert call;
    linked = ap (λ y. has_linked (exchange_deed y (exchange_taken p m told))) is;
  })
  link_spares m (Ended Won) is (Remove k) call = kept m (Remove k) is call (λ hand. refl)
  link_spares m (Ended Won) is (Contains_call k) call = kept m (Contains_call k) is call (λ hand. refl)
  link_spares m (Ended Won) is (Get k) call = kept m (Get k) is call (λ hand. refl)
  link_spares m (Ended (Lost found)) is c call = unwon m (ap has_won is)
  link_spares m (Ended (Worn word version)) is c call = unwon m (ap has_won is)
  link_spares m Ready is c call = unwon m (ap has_won is)
  link_spares m (Tries slot) is c call = unwon m (ap has_won is)
  link_spares m TriesBare is c call = unwon m (ap has_won is)
  link_spares m WritesBack is c call = unwon m (ap has_won is)
  link_spares m Withdraws is c call = unwon m (ap has_won is)
  link_spares m (Lowers slot found) is c call = unwon m (ap has_won is)

  spares_at : (at : At) → has_ended p (m_at at) ≡ true → Spares at
  spares_at (Head m) ended = let n = load_taken p m told in
      inl (spare_goes n.hand (next_at (Head m)) (head_loaded l free (at_it (Head n)) n n.at).spare)
  spares_at (Key head m) ended = let n = v_load_taken m told in
      inl (spare_goes n.hand (next_at (Key head m)) (key_loaded l free (at_it (Key head n)) head n n.at).spare)
  spares_at (Value m) ended = let n = v_load_taken m told in
      inl (spare_goes n.hand (next_at (Value m)) (value_loaded l free (at_it (Value n)) n n.at).spare)
  spares_at (Row head m) ended = let n = take_taken free m told in
      inl (spare_goes n.hand (next_at (Row head m)) (row_taken_so l free (at_it (Row head n)) head n n.at).spare)
  spares_at (Words head m) ended = let n = store_taken m told in
      inl (spare_goes n.hand (next_at (Words head m)) (words_stored l free (at_it (Words head n)) head n n.at).spare)
  spares_at (RowValue head m) ended = let n = store_taken m told in
      inl (spare_goes n.hand (next_at (RowValue head m)) (value_stored l free (at_it (RowValue head n)) head n n.at).spare)
  spares_at (Link m) ended = link_spares m (exchange_taken p m told).at refl op.call refl
  spares_at (Ends m) ended = absurd (and_false (is_none (complete_asked (complete_taken m told))) ended)
  spares_at (Rests hand) ended = inl (λ row some has. has)

  pub goes_on_with : has_ended p (m_at op.at) ≡ true → IsTally (hand_in (m_at op.at)).tally →
      GoesOnWith (hand_in (m_at op.at)).tally (tally_of A (resumed l free op (m_at op.at)))
  goes_on_with ended t = tallies_at op.at ended t

  pub spares_on : has_ended p (m_at op.at) ≡ true → AreSpareIn (hand_in (A.machine (resumed l free op (m_at op.at)))) (hand_in (m_at op.at))
      ⊎ HasLinkedBy A op (m_at op.at)
  spares_on ended = spares_at op.at ended

pub one_key_counts : (l : Layout) (p : Place) (free : List ℕ) → KeepsCounts (one_key_crew l free) p free
one_key_counts l p free = record {
  begun = λ hand call t. record { same = refl; tries = inr refl };
  resumed = λ op m e t. resumed_by op m e.told e.is e.ended t;
  spare = λ h me op m kept knows same e. spare_by op m e.told e.is e.ended;
}
  where
    resumed_by : (op : HeldOp) (m : Machine) (told : ℕ) → m ≡ machine_takes p free (machine_at op.at) told → has_ended p m ≡ true → IsTally (hand_in m).tally →
        GoesOnWith (hand_in m).tally (tally_of (one_key_anatomy l free) (resumed l free op m))
    resumed_by op m told is ended t =
        subst (λ x. GoesOnWith (hand_in x).tally (tally_of (one_key_anatomy l free) (resumed l free op x))) (sym is)
        (goes_on_with l p free op told (ap (has_ended p) (sym is) ∙ ended) (subst (λ x. IsTally (hand_in x).tally) is t))

    spare_by : (op : HeldOp) (m : Machine) (told : ℕ) → m ≡ machine_takes p free (machine_at op.at) told → has_ended p m ≡ true →
        AreSpareIn (hand_in (machine_at (resumed l free op m).at)) (hand_in m) ⊎ HasLinkedBy (one_key_anatomy l free) op m
    spare_by op m told is ended =
        subst (λ x. AreSpareIn (hand_in (machine_at (resumed l free op x).at)) (hand_in x) ⊎ HasLinkedBy (one_key_anatomy l free) op x) (sym is)
        (spares_on l p free op told (ap (has_ended p) (sym is) ∙ ended))
