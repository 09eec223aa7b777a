-- The hand of a call as it goes on from its ended machine: that of the machine, but for a search that begins and a row that
-- is linked.
use Rattle.std.proofs.Common.{◌≡◌, ◌⊎◌, inl, inr, ℕ, nat_le, eqb, Bool, true, false, List, [], ◌∷◌, refl, sym, ap, if◌then◌else◌}
use Rattle.std.proofs.lemmas.Bool.{false≢true}
use Rattle.flit_words.specs.declared.layouts.Layout.{Layout}
use Rattle.flit_words.specs.Words.{version_of, value_of}
use Rattle.flit_model.specs.declared.calls.Call.{Call}
use Rattle.flit_model.specs.declared.calls.Call.TheVariants.{Insert, Remove, Contains, Get}
use Rattle.flit_model.specs.declared.calls.Reply.{Reply}
use Rattle.flit_model.specs.declared.calls.Reply.TheVariants.{Yes, No, Found, Full, Worn}
use Rattle.flit_pv.specs.declared.hands.Hand.{Hand}
use Rattle.flit_pv.specs.Loads.{HeldLoad}
use Rattle.flit_pv.specs.declared.loads.Loading.{Loading}
use Rattle.flit_pv.specs.declared.loads.Loading.TheVariants.{Reads as Load_reads, Asks, MakesRoom as Load_makes_room, Has}
use Rattle.flit_pv.specs.VLoads.{HeldVLoad, v_load_started}
use Rattle.flit_pv.specs.declared.v_loads.VLoading.{VLoading}
use Rattle.flit_pv.specs.declared.v_loads.VLoading.TheVariants.{Reads as V_reads, Has as V_has}
use Rattle.flit_pv.specs.Exchanges.{HeldExchange}
use Rattle.flit_pv.specs.declared.exchanges.Exchanging.{Exchanging}
use Rattle.flit_pv.specs.declared.exchanges.Exchanging.TheVariants.{Ready, Tries, TriesBare, WritesBack, Withdraws, Lowers, Ended}
use Rattle.flit_pv.specs.declared.exchanges.Exchanged.TheVariants.{Won, Lost, Worn as Exchange_worn}
use Rattle.flit_pv.specs.Stores.{HeldStore, store_started}
use Rattle.flit_pv.specs.declared.stores.Storing.{Storing}
use Rattle.flit_pv.specs.declared.stores.Storing.TheVariants.{Reads as Store_reads, MakesRoom as Store_makes_room, Writes, Ended as Store_ended}
use Rattle.flit_pv.specs.declared.stores.Stored.TheVariants.{Stored as All_stored, Worn as Store_worn}
use Rattle.flit_pv.specs.Drafts.{next_bare}
use Rattle.flit_pv.proofs.Asking.{has_won}
use Rattle.flit_rows.specs.declared.take_row.Took.TheVariants.{Taken, None as NoRow}
use Rattle.flit_rows.specs.declared.take_row.Taking.{Taking}
use Rattle.flit_rows.specs.declared.take_row.Taking.TheVariants.{Draws, Ended as Take_ended}
use Rattle.flit_rows.specs.Taking.{HeldTake, take_started}
use Rattle.flit_structure.specs.Meanings.{key_of, value_put}
use Rattle.flit_one_key.specs.Operations.{At, Head, Key, Value, Row, Words, RowValue, Link, HeldOp}
use Rattle.flit_one_key.specs.Steps.{with_search, searches, answers, hand_linked, link_by, link_next, links, row_value_by, stores_value, words_by, stores, row_by, takes_row, value_by, value_next, key_is, key_isnt, key_by, key_next, head_none, head_by, links_none, key_word, value_word, to_row, hand_at}

-- a call has come somewhere with a hand: its tally is that of the hand, or has one search more
abbrev pub Tallied : Hand → At → Type 0
Tallied hand at = ((hand_at at).tally ≡ hand.tally) ⊎ ((hand_at at).tally ≡ (with_search hand).tally)

-- and its spare rows are those of the hand
pub record Carries (hand : Hand) (at : At) : Type 0 where
  pub tally : Tallied hand at
  pub spare : (hand_at at).spare ≡ hand.spare

module _ (l : Layout) (free : List ℕ) (op : HeldOp) where
  carried : (hand : Hand) (at : At) → hand_at at ≡ hand → Carries hand at
  carried hand at e = record { tally = inl (ap (λ x. x.tally) e); spare = ap (λ x. x.spare) e }

  to_answer : (hand : Hand) (reply : Reply) → Carries hand (answers op hand reply).at
  to_answer hand reply = carried hand (answers op hand reply).at refl

  to_search : (hand : Hand) → Carries hand (searches op hand).at
  to_search hand = record { tally = inr refl; spare = refl }

  -- the head is exchanged; a row that is linked by it is spare no more
  linked_tally : (call : Call) (hand : Hand) → (hand_linked call hand).tally ≡ hand.tally
  linked_tally (Insert k v) hand = refl
  linked_tally (Remove k) hand = refl
  linked_tally (Contains k) hand = refl
  linked_tally (Get k) hand = refl

  pub link_tallied : (m : HeldExchange) (at : Exchanging) → Tallied m.hand (link_by op m at).at
  link_tallied m Ready = inl refl
  link_tallied m (Tries slot) = inl refl
  link_tallied m TriesBare = inl refl
  link_tallied m WritesBack = inl refl
  link_tallied m Withdraws = inl refl
  link_tallied m (Lowers slot found) = inl refl
  link_tallied m (Ended Won) = inl (linked_tally op.call m.hand)
  link_tallied m (Ended (Lost found)) = inr refl
  link_tallied m (Ended (Exchange_worn word version)) = inl refl

  pub link_spare : (m : HeldExchange) (at : Exchanging) → has_won at ≡ false → (hand_at (link_by op m at).at).spare ≡ m.hand.spare
  link_spare m Ready unwon = refl
  link_spare m (Tries slot) unwon = refl
  link_spare m TriesBare unwon = refl
  link_spare m WritesBack unwon = refl
  link_spare m Withdraws unwon = refl
  link_spare m (Lowers slot found) unwon = refl
  link_spare m (Ended Won) unwon = absurd (false≢true (sym unwon))
  link_spare m (Ended (Lost found)) unwon = refl
  link_spare m (Ended (Exchange_worn word version)) unwon = refl

  to_exchange : (hand : Hand) (head value : ℕ) → Carries hand (links l op hand head value).at
  to_exchange hand head value = by_limit (nat_le l.limit (version_of head))
    where
      by_limit : (worn : Bool) → Carries hand (link_next op
          (if worn then record { hand = hand; word = 0; from = head; to = 0; at = Ended (Exchange_worn 0 (version_of head)) }
          else record { hand = hand; word = 0; from = head; to = next_bare head value; at = Ready })).at
      by_limit true = to_answer hand (Worn 0 (version_of head))
      by_limit false = carried hand (Link (record { hand = hand; word = 0; from = head; to = next_bare head value; at = Ready })) refl

  -- the row is stored
  pub value_stored : (head : ℕ) (m : HeldStore) (at : Storing) → Carries m.hand (row_value_by l op head m at).at
  value_stored head m (Store_reads how) = carried m.hand (RowValue head m) refl
  value_stored head m (Writes next) = carried m.hand (RowValue head m) refl
  value_stored head m (Store_makes_room next first) = carried m.hand (RowValue head m) refl
  value_stored head m (Store_ended All_stored) = to_exchange m.hand head to_row
  value_stored head m (Store_ended (Store_worn word version)) = to_answer m.hand (Worn word version)

  to_value : (hand : Hand) (head value : ℕ) (values : Bool) → Carries hand (if values then stores_value l op hand head value
      else links l op hand head to_row).at
  to_value hand head value true = let m = store_started hand (value_word l) (value ∷ []) l.limit in value_stored head m m.at
  to_value hand head value false = to_exchange hand head to_row

  pub words_stored : (head : ℕ) (m : HeldStore) (at : Storing) → Carries m.hand (words_by l op head (value_put op.call) m at).at
  words_stored head m (Store_reads how) = carried m.hand (Words head m) refl
  words_stored head m (Writes next) = carried m.hand (Words head m) refl
  words_stored head m (Store_makes_room next first) = carried m.hand (Words head m) refl
  words_stored head m (Store_ended All_stored) = to_value m.hand head (value_put op.call) l.values
  words_stored head m (Store_ended (Store_worn word version)) = to_answer m.hand (Worn word version)

  to_words : (hand : Hand) (head : ℕ) (none : Bool) → Carries hand (if none then stores l op hand head else searches op hand).at
  to_words hand head true = let m = store_started hand (key_word l) (key_of op.call ∷ 0 ∷ []) l.limit in words_stored head m m.at
  to_words hand head false = to_search hand

  -- a row is taken
  pub row_taken_so : (head : ℕ) (m : HeldTake) (at : Taking) → Carries m.hand (row_by l op head m at).at
  row_taken_so head m Draws = carried m.hand (Row head m) refl
  row_taken_so head m (Take_ended Taken) = to_words m.hand head (links_none head)
  row_taken_so head m (Take_ended (NoRow ticket)) = to_answer m.hand (Full ticket)

  to_take : (hand : Hand) (head : ℕ) → Carries hand (takes_row l free op hand head).at
  to_take hand head = let m = take_started free hand 1 in row_taken_so head m m.at

  -- the value, the key and the head are loaded
  pub value_loaded : (m : HeldVLoad) (at : VLoading) → Carries m.hand (value_by op m at).at
  value_loaded m V_reads = carried m.hand (Value m) refl
  value_loaded m (V_has raw) = to_answer m.hand (Found (value_of raw))

  to_get : (hand : Hand) (values : Bool) → Carries hand (if values then value_next op (v_load_started hand (value_word l)) else answers op hand (Found 0)).at
  to_get hand true = let m = v_load_started hand (value_word l) in value_loaded m m.at
  to_get hand false = to_answer hand (Found 0)

  to_key_is : (hand : Hand) (head : ℕ) (call : Call) → Carries hand (key_is l op hand head call).at
  to_key_is hand head (Insert k v) = to_answer hand No
  to_key_is hand head (Remove k) = to_exchange hand head 0
  to_key_is hand head (Contains k) = to_answer hand Yes
  to_key_is hand head (Get k) = to_get hand l.values

  to_key_isnt : (hand : Hand) (head : ℕ) (call : Call) → Carries hand (key_isnt l free op hand head call).at
  to_key_isnt hand head (Insert k v) = to_take hand head
  to_key_isnt hand head (Remove k) = to_answer hand No
  to_key_isnt hand head (Contains k) = to_answer hand No
  to_key_isnt hand head (Get k) = to_answer hand No

  to_key : (hand : Hand) (head : ℕ) (is : Bool) → Carries hand (if is then key_is l op hand head op.call else key_isnt l free op hand head op.call).at
  to_key hand head true = to_key_is hand head op.call
  to_key hand head false = to_key_isnt hand head op.call

  pub key_loaded : (head : ℕ) (m : HeldVLoad) (at : VLoading) → Carries m.hand (key_by l free op head m at).at
  key_loaded head m V_reads = carried m.hand (Key head m) refl
  key_loaded head m (V_has raw) = to_key m.hand head (eqb (value_of raw) (key_of op.call))

  to_none : (hand : Hand) (head : ℕ) (call : Call) → Carries hand (head_none l free op hand head call).at
  to_none hand head (Insert k v) = to_take hand head
  to_none hand head (Remove k) = to_answer hand No
  to_none hand head (Contains k) = to_answer hand No
  to_none hand head (Get k) = to_answer hand No

  to_head : (hand : Hand) (head : ℕ) (none : Bool) → Carries hand (if none then head_none l free op hand head op.call
      else key_next l free op head (v_load_started hand (key_word l))).at
  to_head hand head true = to_none hand head op.call
  to_head hand head false = let m = v_load_started hand (key_word l) in key_loaded head m m.at

  pub head_loaded : (m : HeldLoad) (at : Loading) → Carries m.hand (head_by l free op m at).at
  head_loaded m Load_reads = carried m.hand (Head m) refl
  head_loaded m (Asks raw slot) = carried m.hand (Head m) refl
  head_loaded m (Load_makes_room raw first) = carried m.hand (Head m) refl
  head_loaded m (Has raw) = to_head m.hand raw (links_none raw)
