-- The counts of a call, and its spare rows, go on as its machine's, but for loads, a help, a search that begins and a row
-- that is linked.
use Rattle.std.proofs.Common.{◌≡◌, ◌⊎◌, inl, inr, ℕ, ◌≤◌, ◌&&◌, nat_le, Bool, true, false, List, is_none, refl, if◌then◌else◌, sym, ◌∙◌, ap, subst, arith}
use Rattle.std.proofs.lemmas.Bool.{false≢true}
use Rattle.std.specs.Prelude.{Contains}
use Rattle.flit_words.specs.declared.layouts.Layout.{Layout}
use Rattle.flit_place.specs.Tags.{Place}
use Rattle.flit_pv.specs.declared.hands.Hand.{Hand}
use Rattle.flit_pv.specs.Tallies.{IsTally}
use Rattle.flit_pv.specs.VLoads.{v_load_taken}
use Rattle.flit_pv.specs.Confirms.{confirm_taken}
use Rattle.flit_pv.specs.Stores.{store_taken}
use Rattle.flit_pv.specs.Exchanges.{HeldExchange, exchange_taken}
use Rattle.flit_pv.specs.Fences.{complete_asked, complete_taken}
use Rattle.flit_pv.specs.declared.exchanges.Exchanging.{Exchanging}
use Rattle.flit_pv.specs.declared.exchanges.Exchanging.TheVariants.{Ready, Tries, TriesBare, WritesBack, Withdraws, Lowers, Ended}
use Rattle.flit_pv.specs.declared.exchanges.Exchanged.TheVariants.{Won, Lost, Worn}
use Rattle.flit_rows.specs.Taking.{take_taken}
use Rattle.flit_structure.specs.Lawful.{AreSpareIn, is_insert}
use Rattle.flit_crew.specs.Machines.{Machine, machine_takes, hand_in, has_ended, exchange_deed, has_linked}
use Rattle.flit_crew.specs.Anatomies.{Anatomy}
use Rattle.flit_crew_bounds.specs.Counting.{GoesOnWith, tally_of, HasLinkedBy, KeepsCounts}
use Rattle.flit_list_steps.specs.Operations.{At, Head, Next, Key, Confirming, Help, Row, Words, RowValue, Link, Mark, Tidy, Value, Ends, Rests, HeldOp}
use Rattle.flit_list_steps.specs.Steps.{Carried, carried, with_search, with_helped, link_by, mark_by, tidy_by, tidy_next, help_by, unlinked, to_row, row_of, hand_at}
use Rattle.flit_list_laws.specs.ListAnatomy.{machine_at, resumed, list_anatomy}
use Rattle.flit_list_laws.specs.Walks.{Loaded, Walk}
use Rattle.flit_list_laws.specs.ListCrew.{KnowsAt, Knows, list_crew}
use Rattle.flit_list_laws.proofs.Sitting.{sits_head, sits_next_at, sits_key, sits_confirming, sits_help_at, sits_row, sits_words, sits_row_value, sits_value}
use Rattle.flit_structure.specs.Meanings.{value_put}
use Rattle.flit_list_heap.specs.Keeping.{ListHeap}
use Rattle.flit_crew.specs.Crews.{Who}
use Rattle.flit_words.specs.Words.{version_of}
use Rattle.flit_pv.proofs.Asking.{has_won}
use Rattle.flit_list_limits.specs.Laws.{ListsCount}
use Rattle.flit_list_limits.proofs.Carrying.{worn_one, fresh_one, Quiet, quiet_same, top, to_tidy, tidied, words_stored, value_stored, row_taken, value_loaded, confirmed_so, to_looks, key_loaded, next_loaded, head_loaded}

same_le : (n : ℕ) → n ≤ n
same_le n = omega arith

-- ---- tallies

abbrev Goes : Hand → Hand → Type 0
Goes hand now = GoesOnWith hand.tally now.tally

quiet_goes : (hand now : Hand) → IsTally hand.tally → Quiet hand now → Goes hand now
quiet_goes hand now t q = record {
  within = q.within t;
  loads = q.loads t;
  omitted = q.omitted t;
  queued = q.queued t;
  split = q.split;
  persists = q.persists;
  failed = q.failed;
  helped = inl q.helped;
  tries = inl q.tries;
}

search_goes : (hand : Hand) → IsTally hand.tally → Goes hand (with_search hand)
search_goes hand t = record {
  within = record {
    loads = t.loads;
    omitted = t.omitted;
    queued = t.queued;
    persists = t.persists;
    failed = t.failed;
    helped = t.helped;
    tries = top hand.tally.tries;
  };
  loads = same_le hand.tally.loads;
  omitted = same_le hand.tally.omitted;
  queued = same_le hand.tally.queued;
  split = λ s. s;
  persists = refl;
  failed = refl;
  helped = inl refl;
  tries = inr refl;
}

helped_tally : (hand : Hand) → IsTally hand.tally → IsTally (with_helped hand).tally
helped_tally hand t = record {
  loads = t.loads;
  omitted = t.omitted;
  queued = t.queued;
  persists = t.persists;
  failed = t.failed;
  helped = top hand.tally.helped;
  tries = t.tries;
}

help_goes : (hand now : Hand) → IsTally hand.tally → Quiet (with_helped hand) now → Goes hand now
help_goes hand now t q = record {
  within = q.within (helped_tally hand t);
  loads = q.loads (helped_tally hand t);
  omitted = q.omitted (helped_tally hand t);
  queued = q.queued (helped_tally hand t);
  split = q.split;
  persists = q.persists;
  failed = q.failed;
  helped = inr q.helped;
  tries = inl q.tries;
}

pub same_hand : (at : At) → hand_in (machine_at at) ≡ hand_at at
same_hand (Head m) = refl
same_hand (Next m) = refl
same_hand (Key m) = refl
same_hand (Confirming goal which m) = refl
same_hand (Help m) = refl
same_hand (Row m) = refl
same_hand (Words m) = refl
same_hand (RowValue m) = refl
same_hand (Link m) = refl
same_hand (Mark m) = refl
same_hand (Tidy m) = refl
same_hand (Value m) = refl
same_hand (Ends m) = refl
same_hand (Rests hand) = refl

pub and_false : (b : Bool) → (b && false) ≡ true → ⊥
and_false true q = false≢true q
and_false false q = false≢true q

and_first : (a b : Bool) → (a && b) ≡ true → a ≡ true
and_first true b q = refl
and_first false b q = q

module _ (l : Layout) (p : Place) (free : List ℕ) (op : HeldOp) (told : ℕ) where
  abbrev A : Anatomy HeldOp
  A = list_anatomy l p free

  abbrev at_it : At → HeldOp
  at_it at = record op { at = at }

  abbrev m_at : At → Machine
  m_at at = machine_takes p free (machine_at at) told

  abbrev next_at : At → At
  next_at at = (resumed l p free (at_it at) (m_at at)).at

  abbrev on : Carried
  on = carried op

  abbrev Tallies_at : At → Type 0
  Tallies_at at = Goes (hand_in (m_at at)) (hand_at (next_at at))

  help_tallied : (m : HeldExchange) (x : Exchanging) → IsTally m.hand.tally → Goes m.hand (hand_at (help_by l p free on m x).at)
  help_tallied m Ready t = quiet_goes m.hand m.hand t (quiet_same m.hand)
  help_tallied m (Tries slot) t = quiet_goes m.hand m.hand t (quiet_same m.hand)
  help_tallied m TriesBare t = quiet_goes m.hand m.hand t (quiet_same m.hand)
  help_tallied m WritesBack t = quiet_goes m.hand m.hand t (quiet_same m.hand)
  help_tallied m Withdraws t = quiet_goes m.hand m.hand t (quiet_same m.hand)
  help_tallied m (Lowers slot found) t = quiet_goes m.hand m.hand t (quiet_same m.hand)
  help_tallied m (Ended Won) t = help_goes m.hand (hand_at (help_by l p free on m (Ended Won)).at) t
      (to_looks l p free (record on { path = unlinked op.path m.to }) (with_helped m.hand))
  help_tallied m (Ended (Lost found)) t = search_goes m.hand t
  help_tallied m (Ended (Worn word version)) t = quiet_goes m.hand m.hand t (quiet_same m.hand)

  link_tallied : (m : HeldExchange) (x : Exchanging) → IsTally m.hand.tally → Goes m.hand (hand_at (link_by l on m x).at)
  link_tallied m Ready t = quiet_goes m.hand m.hand t (quiet_same m.hand)
  link_tallied m (Tries slot) t = quiet_goes m.hand m.hand t (quiet_same m.hand)
  link_tallied m TriesBare t = quiet_goes m.hand m.hand t (quiet_same m.hand)
  link_tallied m WritesBack t = quiet_goes m.hand m.hand t (quiet_same m.hand)
  link_tallied m Withdraws t = quiet_goes m.hand m.hand t (quiet_same m.hand)
  link_tallied m (Lowers slot found) t = quiet_goes m.hand m.hand t (quiet_same m.hand)
  link_tallied m (Ended Won) t = quiet_goes m.hand m.hand t (quiet_same m.hand)
  link_tallied m (Ended (Lost found)) t = search_goes m.hand t
  link_tallied m (Ended (Worn word version)) t = quiet_goes m.hand m.hand t (quiet_same m.hand)

  mark_tallied : (m : HeldExchange) (x : Exchanging) → IsTally m.hand.tally → Goes m.hand (hand_at (mark_by l on m x).at)
  mark_tallied m Ready t = quiet_goes m.hand m.hand t (quiet_same m.hand)
  mark_tallied m (Tries slot) t = quiet_goes m.hand m.hand t (quiet_same m.hand)
  mark_tallied m TriesBare t = quiet_goes m.hand m.hand t (quiet_same m.hand)
  mark_tallied m WritesBack t = quiet_goes m.hand m.hand t (quiet_same m.hand)
  mark_tallied m Withdraws t = quiet_goes m.hand m.hand t (quiet_same m.hand)
  mark_tallied m (Lowers slot found) t = quiet_goes m.hand m.hand t (quiet_same m.hand)
  mark_tallied m (Ended Won) t = quiet_goes m.hand (hand_at (mark_by l on m (Ended Won)).at) t (to_tidy l p free on m.hand)
  mark_tallied m (Ended (Lost found)) t = search_goes m.hand t
  mark_tallied m (Ended (Worn word version)) t = quiet_goes m.hand m.hand t (quiet_same m.hand)

  tallies_at : (at : At) → has_ended p (m_at at) ≡ true → IsTally (hand_in (m_at at)).tally → Tallies_at at
  tallies_at (Head m) ended t = let n = v_load_taken m told in
      quiet_goes n.hand (hand_at (next_at (Head m))) t (head_loaded l p free on n n.at)
  tallies_at (Next m) ended t = let n = v_load_taken m told in
      quiet_goes n.hand (hand_at (next_at (Next m))) t (next_loaded l p free on n n.at)
  tallies_at (Key m) ended t = let n = v_load_taken m told in
      quiet_goes n.hand (hand_at (next_at (Key m))) t (key_loaded l p free on n n.at)
  tallies_at (Confirming goal which m) ended t = let n = confirm_taken p m told in
      quiet_goes n.hand (hand_at (next_at (Confirming goal which m))) t (confirmed_so l p free on goal which n)
  tallies_at (Help m) ended t = let n = exchange_taken p m told in help_tallied n n.at t
  tallies_at (Row m) ended t = let n = take_taken free m told in
      quiet_goes n.hand (hand_at (next_at (Row m))) t (row_taken l p free on n n.at)
  tallies_at (Words m) ended t = let n = store_taken m told in
      quiet_goes n.hand (hand_at (next_at (Words m))) t (words_stored l p free on (value_put op.call) n n.at)
  tallies_at (RowValue m) ended t = let n = store_taken m told in
      quiet_goes n.hand (hand_at (next_at (RowValue m))) t (value_stored l p free on n n.at)
  tallies_at (Link m) ended t = let n = exchange_taken p m told in link_tallied n n.at t
  tallies_at (Mark m) ended t = let n = exchange_taken p m told in mark_tallied n n.at t
  tallies_at (Tidy m) ended t = let n = exchange_taken p m told in
      quiet_goes n.hand (hand_at (next_at (Tidy m))) t (tidied l p free on n n.at)
  tallies_at (Value m) ended t = let n = v_load_taken m told in
      quiet_goes n.hand (hand_at (next_at (Value m))) t (value_loaded l p free on n n.at)
  tallies_at (Ends m) ended t = absurd (and_false (is_none (complete_asked (complete_taken m told))) ended)
  tallies_at (Rests hand) ended t = quiet_goes hand hand t (quiet_same hand)

  pub goes_on_with : has_ended p (m_at op.at) ≡ true → IsTally (hand_in (m_at op.at)).tally →
      GoesOnWith (hand_in (m_at op.at)).tally (tally_of A (resumed l p free op (m_at op.at)))
  goes_on_with ended t = subst (λ x. GoesOnWith (hand_in (m_at op.at)).tally x.tally) (sym (same_hand (next_at op.at))) (tallies_at op.at ended t)

  -- ---- spare rows: one leaves them where an insert's exchange was won

  abbrev Spares : At → Type 0
  Spares at = AreSpareIn (hand_in (machine_at (next_at at))) (hand_in (m_at at)) ⊎ HasLinkedBy A (at_it at) (m_at at)

  spare_goes : (hand : Hand) (at : At) → (hand_at at).spare ≡ hand.spare → AreSpareIn (hand_in (machine_at at)) hand
  spare_goes hand at e row some has = subst (λ xs. Contains xs row) (sym (ap (λ x. x.spare) (same_hand at) ∙ e)) has

  -- the row that a won removal's call unlinks is no spare one
  tidy_either : (hand : Hand) (word old value : ℕ) (b : Bool) →
      (hand_at (tidy_next on (if b then worn_one hand word old else fresh_one hand word old value)).at).spare ≡ hand.spare
  tidy_either hand word old value true = refl
  tidy_either hand word old value false = refl

  mark_spare : (m : HeldExchange) (x : Exchanging) → (hand_at (mark_by l on m x).at).spare ≡ m.hand.spare
  mark_spare m Ready = refl
  mark_spare m (Tries slot) = refl
  mark_spare m TriesBare = refl
  mark_spare m WritesBack = refl
  mark_spare m Withdraws = refl
  mark_spare m (Lowers slot found) = refl
  mark_spare m (Ended Won) = tidy_either m.hand op.path.pred.word op.path.pred.raw (to_row (row_of op.path.next.raw))
      (nat_le l.limit (version_of op.path.pred.raw))
  mark_spare m (Ended (Lost found)) = refl
  mark_spare m (Ended (Worn word version)) = refl

  tidy_spare : (m : HeldExchange) (x : Exchanging) → (hand_at (tidy_by on m x).at).spare ≡ m.hand.spare
  tidy_spare m Ready = refl
  tidy_spare m (Tries slot) = refl
  tidy_spare m TriesBare = refl
  tidy_spare m WritesBack = refl
  tidy_spare m Withdraws = refl
  tidy_spare m (Lowers slot found) = refl
  tidy_spare m (Ended how) = refl

  link_spare : (m : HeldExchange) (x : Exchanging) → has_won x ≡ false → (hand_at (link_by l on m x).at).spare ≡ m.hand.spare
  link_spare m Ready unwon = refl
  link_spare m (Tries slot) unwon = refl
  link_spare m TriesBare unwon = refl
  link_spare m WritesBack unwon = refl
  link_spare m Withdraws unwon = refl
  link_spare m (Lowers slot found) unwon = refl
  link_spare m (Ended Won) unwon = absurd (false≢true (sym unwon))
  link_spare m (Ended (Lost found)) unwon = refl
  link_spare m (Ended (Worn word version)) unwon = refl

  unwon : (m : HeldExchange) → has_won (exchange_taken p m told).at ≡ false → Spares (Link m)
  unwon m q = inl (spare_goes (exchange_taken p m told).hand (next_at (Link m))
      (link_spare (exchange_taken p m told) (exchange_taken p m told).at q))

  link_spares : (m : HeldExchange) (x : Exchanging) → (exchange_taken p m told).at ≡ x → is_insert op.call ≡ true → Spares (Link m)
  link_spares m (Ended Won) is insert = inr (record {
    effects = refl;
    insert = insert;
    linked = ap (λ y. has_linked (exchange_deed y (exchange_taken p m told))) is;
  })
  link_spares m (Ended (Lost found)) is insert = unwon m (ap has_won is)
  link_spares m (Ended (Worn word version)) is insert = unwon m (ap has_won is)
  link_spares m Ready is insert = unwon m (ap has_won is)
  link_spares m (Tries slot) is insert = unwon m (ap has_won is)
  link_spares m TriesBare is insert = unwon m (ap has_won is)
  link_spares m WritesBack is insert = unwon m (ap has_won is)
  link_spares m Withdraws is insert = unwon m (ap has_won is)
  link_spares m (Lowers slot found) is insert = unwon m (ap has_won is)

  -- a call that links its row is an insert
  abbrev pub IsInsertAt : At → Type 0
  IsInsertAt (Head m) = Unit {0}
  IsInsertAt (Next m) = Unit {0}
  IsInsertAt (Key m) = Unit {0}
  IsInsertAt (Confirming goal which m) = Unit {0}
  IsInsertAt (Help m) = Unit {0}
  IsInsertAt (Row m) = Unit {0}
  IsInsertAt (Words m) = Unit {0}
  IsInsertAt (RowValue m) = Unit {0}
  IsInsertAt (Link m) = is_insert op.call ≡ true
  IsInsertAt (Mark m) = Unit {0}
  IsInsertAt (Tidy m) = Unit {0}
  IsInsertAt (Value m) = Unit {0}
  IsInsertAt (Ends m) = Unit {0}
  IsInsertAt (Rests hand) = Unit {0}

  spares_at : (at : At) → has_ended p (m_at at) ≡ true → IsInsertAt at → Spares at
  spares_at (Head m) ended i = let n = v_load_taken m told in inl (λ row some has. subst (λ xs. Contains xs row) (sym (sits_head l p free on n n.at).spare) has)
  spares_at (Next m) ended i = let n = v_load_taken m told in
      inl (λ row some has. subst (λ xs. Contains xs row) (sym (sits_next_at l p free on n n.at).spare) has)
  spares_at (Key m) ended i = let n = v_load_taken m told in inl (λ row some has. subst (λ xs. Contains xs row) (sym (sits_key l p free on n n.at).spare) has)
  spares_at (Confirming goal which m) ended i = let n = confirm_taken p m told in
      inl (λ row some has. subst (λ xs. Contains xs row) (sym (sits_confirming l p free on goal which n).spare) has)
  spares_at (Help m) ended i = let n = exchange_taken p m told in
      inl (λ row some has. subst (λ xs. Contains xs row) (sym (sits_help_at l p free on n n.at).spare) has)
  spares_at (Row m) ended i = let n = take_taken free m told in inl (λ row some has. subst (λ xs. Contains xs row) (sym (sits_row l p free on n n.at).spare) has)
  spares_at (Words m) ended i = let n = store_taken m told in
      inl (λ row some has. subst (λ xs. Contains xs row) (sym (sits_words l p free on n (value_put op.call) n.at).spare) has)
  spares_at (RowValue m) ended i = let n = store_taken m told in
      inl (λ row some has. subst (λ xs. Contains xs row) (sym (sits_row_value l p free on n n.at).spare) has)
  spares_at (Link m) ended i = link_spares m (exchange_taken p m told).at refl i
  spares_at (Mark m) ended i = let n = exchange_taken p m told in inl (spare_goes n.hand (next_at (Mark m)) (mark_spare n n.at))
  spares_at (Tidy m) ended i = let n = exchange_taken p m told in inl (spare_goes n.hand (next_at (Tidy m)) (tidy_spare n n.at))
  spares_at (Value m) ended i = let n = v_load_taken m told in
      inl (λ row some has. subst (λ xs. Contains xs row) (sym (sits_value l p free on n n.at).spare) has)
  spares_at (Ends m) ended i = absurd (and_false (is_none (complete_asked (complete_taken m told))) ended)
  spares_at (Rests hand) ended i = inl (λ row some has. has)

  insert_at : (h : ListHeap) (me : Who) (w : Walk) (n : Loaded) (at : At) → op.call ≡ me.call → KnowsAt l h me op.reply op.path w n at → IsInsertAt at
  insert_at h me w n (Head m) same k = tt
  insert_at h me w n (Next m) same k = tt
  insert_at h me w n (Key m) same k = tt
  insert_at h me w n (Confirming goal which m) same k = tt
  insert_at h me w n (Help m) same k = tt
  insert_at h me w n (Row m) same k = tt
  insert_at h me w n (Words m) same k = tt
  insert_at h me w n (RowValue m) same k = tt
  insert_at h me w n (Link m) same k = ap is_insert same ∙ k.0
  insert_at h me w n (Mark m) same k = tt
  insert_at h me w n (Tidy m) same k = tt
  insert_at h me w n (Value m) same k = tt
  insert_at h me w n (Ends m) same k = tt
  insert_at h me w n (Rests hand) same k = tt

  pub spares_on : (h : ListHeap) (me : Who) → Knows l h me op → op.call ≡ me.call → has_ended p (m_at op.at) ≡ true →
      AreSpareIn (hand_in (machine_at (resumed l p free op (m_at op.at)).at)) (hand_in (m_at op.at)) ⊎ HasLinkedBy A op (m_at op.at)
  spares_on h me knows same ended = spares_at op.at ended (insert_at h me knows.walk knows.next op.at same knows.at)

list_counts : (l : Layout) (p : Place) (free : List ℕ) → KeepsCounts (list_crew l p free) p free
list_counts l p free = record {
  begun = λ hand call t. record { same = refl; tries = inr refl };
  resumed = λ op m e t. resumed_by op m e.told e.is e.ended t;
  spare = λ h me op m kept knows same e. spare_by h me op m e.told knows same e.is e.ended;
}
  where
    resumed_by : (op : HeldOp) (m : Machine) (told : ℕ) → m ≡ machine_takes p free (machine_at op.at) told → has_ended p m ≡ true → IsTally (hand_in m).tally →
        GoesOnWith (hand_in m).tally (tally_of (list_anatomy l p free) (resumed l p free op m))
    resumed_by op m told is ended t =
        subst (λ x. GoesOnWith (hand_in x).tally (tally_of (list_anatomy l p free) (resumed l p free op x))) (sym is)
        (goes_on_with l p free op told (ap (has_ended p) (sym is) ∙ ended) (subst (λ x. IsTally (hand_in x).tally) is t))

    spare_by : (h : ListHeap) (me : Who) (op : HeldOp) (m : Machine) (told : ℕ) → Knows l h me op → op.call ≡ me.call →
        m ≡ machine_takes p free (machine_at op.at) told → has_ended p m ≡ true →
        AreSpareIn (hand_in (machine_at (resumed l p free op m).at)) (hand_in m) ⊎ HasLinkedBy (list_anatomy l p free) op m
    spare_by h me op m told knows same is ended =
        subst (λ x. AreSpareIn (hand_in (machine_at (resumed l p free op x).at)) (hand_in x) ⊎ HasLinkedBy (list_anatomy l p free) op x) (sym is)
        (spares_on l p free op told h me knows same (ap (has_ended p) (sym is) ∙ ended))

pub lists_count : ListsCount
lists_count = record { counts = list_counts }
