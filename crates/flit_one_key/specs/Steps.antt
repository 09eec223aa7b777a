-- The calls of a map of at most one key: the event that each asks next, and what an answer makes of it. The row is
-- row 1, and the head is word 0.
use Rattle.std.specs.Prelude.{◌≡◌, ℕ, ◌+◌, ◌==◌, Bool, List, [], ◌∷◌, slice_set, if◌then◌else◌}
use Rattle.flit_words.specs.declared.layouts.Layout.{Layout}
use Rattle.flit_words.specs.declared.layouts.Kind.TheVariants.{List as List_kind}
use Rattle.flit_words.specs.Layouts.{Accepted, row_word_of, value_word_of}
use Rattle.flit_words.specs.Words.{value_of}
use Rattle.flit_words.specs.Links.{link_of}
use Rattle.flit_model.specs.declared.calls.Call.{Call}
use Rattle.flit_model.specs.declared.calls.Call.TheVariants.{Insert, Remove, Contains, Get}
use Rattle.flit_model.specs.declared.calls.Reply.{Reply}
use Rattle.flit_model.specs.declared.calls.Reply.TheVariants.{Yes, No, Found, Full, Worn}
use Rattle.flit_pv.specs.declared.hands.Hand.{Hand}
use Rattle.flit_pv.specs.Loads.{HeldLoad}
use Rattle.flit_pv.specs.declared.loads.Loading.{Loading}
use Rattle.flit_pv.specs.declared.loads.Loading.TheVariants.{Reads as Load_reads, Asks, MakesRoom as Load_makes_room, Has}
use Rattle.flit_pv.specs.VLoads.{HeldVLoad}
use Rattle.flit_pv.specs.declared.v_loads.VLoading.{VLoading}
use Rattle.flit_pv.specs.declared.v_loads.VLoading.TheVariants.{Reads as V_reads, Has as V_has}
use Rattle.flit_pv.specs.Exchanges.{HeldExchange}
use Rattle.flit_pv.specs.declared.exchanges.Exchanging.{Exchanging}
use Rattle.flit_pv.specs.declared.exchanges.Exchanging.TheVariants.{Ready, Tries, TriesBare, WritesBack, Withdraws, Lowers, Ended}
use Rattle.flit_pv.specs.declared.exchanges.Exchanged.{Exchanged}
use Rattle.flit_pv.specs.declared.exchanges.Exchanged.TheVariants.{Won, Lost, Worn as Exchange_worn}
use Rattle.flit_pv.specs.Stores.{HeldStore}
use Rattle.flit_pv.specs.declared.stores.Storing.{Storing}
use Rattle.flit_pv.specs.declared.stores.Storing.TheVariants.{Reads as Store_reads, MakesRoom as Store_makes_room, Writes, Ended as Store_ended}
use Rattle.flit_pv.specs.declared.stores.Stored.{Stored}
use Rattle.flit_pv.specs.declared.stores.Stored.TheVariants.{Stored as All_stored, Worn as Store_worn}
use Rattle.flit_pv.specs.Hands.{more}
use Rattle.flit_pv.specs.Loads.{load_started}
use Rattle.flit_pv.specs.VLoads.{v_load_started}
use Rattle.flit_pv.specs.Stores.{store_started}
use Rattle.flit_pv.specs.Exchanges.{exchange_started}
use Rattle.flit_pv.specs.Fences.{complete_started}
use Rattle.flit_rows.specs.Taking.{HeldTake}
use Rattle.flit_rows.specs.declared.take_row.Took.{Took}
use Rattle.flit_rows.specs.declared.take_row.Took.TheVariants.{Taken, None as NoRow}
use Rattle.flit_rows.specs.declared.take_row.Taking.{Taking}
use Rattle.flit_rows.specs.declared.take_row.Taking.TheVariants.{Draws, Ended as Take_ended}
use Rattle.flit_rows.specs.Taking.{take_started}
use Rattle.flit_structure.specs.Meanings.{key_of, value_put}
use Rattle.flit_one_key.specs.Operations.{At}
use Rattle.flit_one_key.specs.Operations.{Head, Key, Value, Row, Words, RowValue, Link, Ends, Rests}
use Rattle.flit_one_key.specs.Operations.{HeldOp}

-- a layout that serves: an accepted list of one row
pub record IsSmall (l : Layout) : Type 0 where
  pub accepted : Accepted l
  pub list : l.kind ≡ List_kind
  pub row : l.rows ≡ 1

-- the row's key word, its value word, and the link to it
abbrev pub key_word : Layout → ℕ
key_word l = row_word_of l 1 0

abbrev pub value_word : Layout → ℕ
value_word l = value_word_of l 1

abbrev pub to_row : ℕ
to_row = 4

-- whether a head word links no row
abbrev pub links_none : ℕ → Bool
links_none head = (link_of (value_of head)).row == 0

-- a hand with one more search begun, one with the next number, and one whose first spare row is used
abbrev pub with_search : Hand → Hand
with_search h = record h { tally = record h.tally { tries = more h.tally.tries } }

abbrev pub with_number : Hand → Hand
with_number h = record h { number = h.number + 1 }

abbrev pub with_row_used : Hand → Hand
with_row_used h = record h { spare = slice_set h.spare 0 0 }

-- ---- what comes next

-- a search begins with the load of the head
abbrev pub searches : HeldOp → Hand → HeldOp
searches op hand = record op { at = Head (load_started (with_search hand) 0) }

abbrev pub op_begun : Hand → Call → HeldOp
op_begun hand call = searches (record { call = call; reply = No; at = Rests hand }) (with_number hand)

-- the call ends with this reply, once all that is queued is written back
abbrev pub answers : HeldOp → Hand → Reply → HeldOp
answers op hand reply = record op { reply = reply; at = Ends (complete_started hand) }

-- an insert's row is used where it is linked
abbrev pub hand_linked : Call → Hand → Hand
hand_linked (Insert k v) hand = with_row_used hand
hand_linked (Remove k) hand = hand
hand_linked (Contains k) hand = hand
hand_linked (Get k) hand = hand

-- the head is exchanged: won is Yes, and lost begins again
abbrev pub linked_so : HeldOp → Hand → Exchanged → HeldOp
linked_so op hand Won = answers op (hand_linked op.call hand) Yes
linked_so op hand (Lost found) = searches op hand
linked_so op hand (Exchange_worn word version) = answers op hand (Worn word version)

abbrev pub link_by : HeldOp → HeldExchange → Exchanging → HeldOp
link_by op m Ready = record op { at = Link m }
link_by op m (Tries slot) = record op { at = Link m }
link_by op m TriesBare = record op { at = Link m }
link_by op m WritesBack = record op { at = Link m }
link_by op m Withdraws = record op { at = Link m }
link_by op m (Lowers slot found) = record op { at = Link m }
link_by op m (Ended how) = linked_so op m.hand how

abbrev pub link_next : HeldOp → HeldExchange → HeldOp
link_next op m = link_by op m m.at

abbrev pub links : Layout → HeldOp → Hand → ℕ → ℕ → HeldOp
links l op hand head value = link_next op (exchange_started hand 0 head value l.limit)

-- the row's value word is stored, and the row is linked
abbrev pub row_value_so : Layout → HeldOp → ℕ → Hand → Stored → HeldOp
row_value_so l op head hand All_stored = links l op hand head to_row
row_value_so l op head hand (Store_worn word version) = answers op hand (Worn word version)

abbrev pub row_value_by : Layout → HeldOp → ℕ → HeldStore → Storing → HeldOp
row_value_by l op head m (Store_reads how) = record op { at = RowValue head m }
row_value_by l op head m (Writes next) = record op { at = RowValue head m }
row_value_by l op head m (Store_makes_room next first) = record op { at = RowValue head m }
row_value_by l op head m (Store_ended how) = row_value_so l op head m.hand how

abbrev pub row_value_next : Layout → HeldOp → ℕ → HeldStore → HeldOp
row_value_next l op head m = row_value_by l op head m m.at

-- the row's key and link are stored; with values, its value word comes next
abbrev pub stores_value : Layout → HeldOp → Hand → ℕ → ℕ → HeldOp
stores_value l op hand head value = row_value_next l op head (store_started hand (value_word l) (value ∷ []) l.limit)

abbrev pub words_so : Layout → HeldOp → ℕ → ℕ → Hand → Stored → HeldOp
words_so l op head value hand All_stored = if l.values then stores_value l op hand head value else links l op hand head to_row
words_so l op head value hand (Store_worn word version) = answers op hand (Worn word version)

abbrev pub words_by : Layout → HeldOp → ℕ → ℕ → HeldStore → Storing → HeldOp
words_by l op head value m (Store_reads how) = record op { at = Words head m }
words_by l op head value m (Writes next) = record op { at = Words head m }
words_by l op head value m (Store_makes_room next first) = record op { at = Words head m }
words_by l op head value m (Store_ended how) = words_so l op head value m.hand how

abbrev pub words_next : Layout → HeldOp → ℕ → HeldStore → HeldOp
words_next l op head m = words_by l op head (value_put op.call) m m.at

abbrev pub stores : Layout → HeldOp → Hand → ℕ → HeldOp
stores l op hand head = words_next l op head (store_started hand (key_word l) (key_of op.call ∷ 0 ∷ []) l.limit)

-- a row is taken: where the head links none it is stored, and else the call begins again, as after a lost exchange
abbrev pub row_taken : Layout → HeldOp → ℕ → Hand → HeldOp
row_taken l op head hand = if links_none head then stores l op hand head else searches op hand

abbrev pub row_so : Layout → HeldOp → ℕ → Hand → Took → HeldOp
row_so l op head hand Taken = row_taken l op head hand
row_so l op head hand (NoRow ticket) = answers op hand (Full ticket)

abbrev pub row_by : Layout → HeldOp → ℕ → HeldTake → Taking → HeldOp
row_by l op head m Draws = record op { at = Row head m }
row_by l op head m (Take_ended took) = row_so l op head m.hand took

abbrev pub row_next : Layout → HeldOp → ℕ → HeldTake → HeldOp
row_next l op head m = row_by l op head m m.at

abbrev pub takes_row : Layout → List ℕ → HeldOp → Hand → ℕ → HeldOp
takes_row l free op hand head = row_next l op head (take_started free hand 1)

-- the value is loaded
abbrev pub value_by : HeldOp → HeldVLoad → VLoading → HeldOp
value_by op m V_reads = record op { at = Value m }
value_by op m (V_has raw) = answers op m.hand (Found (value_of raw))

abbrev pub value_next : HeldOp → HeldVLoad → HeldOp
value_next op m = value_by op m m.at

-- the row's key is loaded: it is the call's key, or another
abbrev pub key_is : Layout → HeldOp → Hand → ℕ → Call → HeldOp
key_is l op hand head (Insert k v) = answers op hand No
key_is l op hand head (Remove k) = links l op hand head 0
key_is l op hand head (Contains k) = answers op hand Yes
key_is l op hand head (Get k) = if l.values then value_next op (v_load_started hand (value_word l)) else answers op hand (Found 0)

abbrev pub key_isnt : Layout → List ℕ → HeldOp → Hand → ℕ → Call → HeldOp
key_isnt l free op hand head (Insert k v) = takes_row l free op hand head
key_isnt l free op hand head (Remove k) = answers op hand No
key_isnt l free op hand head (Contains k) = answers op hand No
key_isnt l free op hand head (Get k) = answers op hand No

abbrev pub key_got : Layout → List ℕ → HeldOp → Hand → ℕ → ℕ → HeldOp
key_got l free op hand head raw = if value_of raw == key_of op.call then key_is l op hand head op.call else key_isnt l free op hand head op.call

abbrev pub key_by : Layout → List ℕ → HeldOp → ℕ → HeldVLoad → VLoading → HeldOp
key_by l free op head m V_reads = record op { at = Key head m }
key_by l free op head m (V_has raw) = key_got l free op m.hand head raw

abbrev pub key_next : Layout → List ℕ → HeldOp → ℕ → HeldVLoad → HeldOp
key_next l free op head m = key_by l free op head m m.at

-- the head is loaded, and it links the row or none
abbrev pub head_none : Layout → List ℕ → HeldOp → Hand → ℕ → Call → HeldOp
head_none l free op hand head (Insert k v) = takes_row l free op hand head
head_none l free op hand head (Remove k) = answers op hand No
head_none l free op hand head (Contains k) = answers op hand No
head_none l free op hand head (Get k) = answers op hand No

abbrev pub head_so : Layout → List ℕ → HeldOp → Hand → ℕ → HeldOp
head_so l free op hand head = if links_none head then head_none l free op hand head op.call else key_next l free op head (v_load_started hand (key_word l))

abbrev pub head_by : Layout → List ℕ → HeldOp → HeldLoad → Loading → HeldOp
head_by l free op m Load_reads = record op { at = Head m }
head_by l free op m (Asks raw slot) = record op { at = Head m }
head_by l free op m (Load_makes_room raw first) = record op { at = Head m }
head_by l free op m (Has raw) = head_so l free op m.hand raw

abbrev pub head_next : Layout → List ℕ → HeldOp → HeldLoad → HeldOp
head_next l free op m = head_by l free op m m.at

-- ---- the whole call

-- the hand so far
abbrev pub hand_at : At → Hand
hand_at (Head m) = m.hand
hand_at (Key head m) = m.hand
hand_at (Value m) = m.hand
hand_at (Row head m) = m.hand
hand_at (Words head m) = m.hand
hand_at (RowValue head m) = m.hand
hand_at (Link m) = m.hand
hand_at (Ends m) = m.fence.hand
hand_at (Rests hand) = hand
