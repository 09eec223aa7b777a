-- The calls of the tree: the event that each asks next, and what an answer makes of it.
use Rattle.std.specs.Prelude.{ℕ, ◌+◌, ◌-◌, ◌%◌, ◌==◌, ◌&&◌, ◌<◌, ◌^◌, nat_lt, not, Bool, true, false, List, [], ◌∷◌, Option, None, is_none, slice_index, if◌then◌else◌}
use Rattle.flit_words.specs.declared.layouts.Layout.{Layout}
use Rattle.flit_words.specs.Layouts.{row_word_of, value_word_of}
use Rattle.flit_words.specs.Words.{value_of}
use Rattle.flit_words.specs.Links.{link_of, link_value}
use Rattle.flit_model.specs.declared.events.Event.{Event}
use Rattle.flit_model.specs.declared.calls.Call.{Call}
use Rattle.flit_model.specs.declared.calls.Call.TheVariants.{Insert, Remove, Contains, Get}
use Rattle.flit_model.specs.declared.calls.Reply.{Reply}
use Rattle.flit_model.specs.declared.calls.Reply.TheVariants.{Yes, No, Found as Found_value, Full, Worn}
use Rattle.flit_place.specs.Tags.{Place}
use Rattle.flit_place.specs.declared.writings.Writing.{Writing}
use Rattle.flit_pv.specs.declared.hands.Hand.{Hand}
use Rattle.flit_pv.specs.Loads.{HeldLoad, load_started, load_asked, load_taken}
use Rattle.flit_pv.specs.declared.loads.Loading.{Loading}
use Rattle.flit_pv.specs.declared.loads.Loading.TheVariants.{Reads as Load_reads, Asks as Load_asks, MakesRoom as Load_makes_room, Has as Load_has}
use Rattle.flit_pv.specs.VLoads.{HeldVLoad, v_load_started, v_load_asked, v_load_taken}
use Rattle.flit_pv.specs.declared.v_loads.VLoading.{VLoading}
use Rattle.flit_pv.specs.declared.v_loads.VLoading.TheVariants.{Reads as V_reads, Has as V_has}
use Rattle.flit_pv.specs.Exchanges.{HeldExchange, exchange_started, exchange_asked, exchange_taken, writing_of}
use Rattle.flit_pv.specs.declared.exchanges.Exchanging.{Exchanging}
use Rattle.flit_pv.specs.declared.exchanges.Exchanging.TheVariants.{Ready, Tries, TriesBare, WritesBack, Withdraws, Lowers, Ended}
use Rattle.flit_pv.specs.declared.exchanges.Exchanged.{Exchanged}
use Rattle.flit_pv.specs.declared.exchanges.Exchanged.TheVariants.{Won, Lost, Worn as Exchange_worn}
use Rattle.flit_pv.specs.Stores.{HeldStore, store_started, store_asked, store_taken}
use Rattle.flit_pv.specs.declared.stores.Storing.{Storing}
use Rattle.flit_pv.specs.declared.stores.Storing.TheVariants.{Reads as Store_reads, MakesRoom as Store_makes_room, Writes, Ended as Store_ended}
use Rattle.flit_pv.specs.declared.stores.Stored.{Stored}
use Rattle.flit_pv.specs.declared.stores.Stored.TheVariants.{Stored as All_stored, Worn as Store_worn}
use Rattle.flit_pv.specs.Queues.{is_nil}
use Rattle.flit_pv.specs.Hands.{more}
use Rattle.flit_pv.specs.Fences.{complete_started, complete_asked, complete_taken}
use Rattle.flit_rows.specs.Taking.{HeldTake, take_started, take_asked, take_taken}
use Rattle.flit_rows.specs.declared.take_row.Took.{Took}
use Rattle.flit_rows.specs.declared.take_row.Took.TheVariants.{Taken, None as NoRow}
use Rattle.flit_rows.specs.declared.take_row.Taking.{Taking}
use Rattle.flit_rows.specs.declared.take_row.Taking.TheVariants.{Draws, Ended as Take_ended}
use Rattle.flit_structure.specs.Meanings.{key_of, value_put}
use Rattle.flit_tree_steps.specs.declared.operations.EdgeWord.{EdgeWord}
use Rattle.flit_tree_steps.specs.declared.operations.Path.{Path}
use Rattle.flit_tree_steps.specs.declared.operations.CleanUp.{CleanUp}
use Rattle.flit_tree_steps.specs.declared.operations.CleanUp.TheVariants.{Own, Help}
use Rattle.flit_tree_steps.specs.Operations.{At, Root, Key, Edge, Rows, LeafWords, LeafValue, InnerWords, Link, Flag, Sibling, Freeze, Swing, Value, Ends, Rests, HeldOp}

-- what a call carries from one machine to the next
pub record Carried : Type 0 where
  pub call : Call
  pub reply : Reply
  pub path : Path

abbrev pub carried : HeldOp → Carried
carried op = record { call = op.call; reply = op.reply; path = op.path }

-- it is at this machine
abbrev pub stands : Carried → At → HeldOp
stands op at = record { call = op.call; reply = op.reply; path = op.path; at = at }

-- ---- words and edges

-- the row that an edge leads to; whether the leaf there is being removed, and whether the edge keeps its value for good
abbrev pub row_of : ℕ → ℕ
row_of raw = (link_of (value_of raw)).row

abbrev pub is_flagged : ℕ → Bool
is_flagged raw = (link_of (value_of raw)).mark

abbrev pub is_frozen : ℕ → Bool
is_frozen raw = (link_of (value_of raw)).frozen

abbrev pub is_plain : ℕ → Bool
is_plain raw = not (is_flagged raw) && not (is_frozen raw)

-- the plain edge to a row, the same with a flag; an edge's own link frozen, and not frozen
abbrev pub to_row : ℕ → ℕ
to_row row = link_value (record { row = row; mark = false; frozen = false; by = 0 })

abbrev pub to_row_flagged : ℕ → ℕ
to_row_flagged row = link_value (record { row = row; mark = true; frozen = false; by = 0 })

abbrev pub frozen_link : ℕ → ℕ
frozen_link raw = link_value (record { row = row_of raw; mark = is_flagged raw; frozen = true; by = 0 })

abbrev pub thawed_link : ℕ → ℕ
thawed_link raw = link_value (record { row = row_of raw; mark = is_flagged raw; frozen = false; by = 0 })

-- the edge that the tree hangs from: the left edge of row 2
abbrev pub root_word : ℕ
root_word = 4

-- a row's key word and its edges
abbrev pub key_word : Layout → ℕ → ℕ
key_word l row = row_word_of l row 0

abbrev pub left_word : Layout → ℕ → ℕ
left_word l row = row_word_of l row 1

abbrev pub right_word : Layout → ℕ → ℕ
right_word l row = row_word_of l row 2

-- the edge of a row on the side of a key, by the row's own key
abbrev pub side_word : Layout → ℕ → ℕ → ℕ → ℕ
side_word l key row_key row = if nat_lt key row_key then left_word l row else right_word l row

-- the other edge of an edge's row
abbrev pub other_word : ℕ → ℕ
other_word edge = if edge % 3 == 1 then edge + 1 else edge - 1

-- ---- the hand

-- with one more search begun, one more removal helped, the next number, and both spare rows used
abbrev pub with_search : Hand → Hand
with_search h = record h { tally = record h.tally { tries = more h.tally.tries } }

abbrev pub with_helped : Hand → Hand
with_helped h = record h { tally = record h.tally { helped = more h.tally.helped } }

abbrev pub with_number : Hand → Hand
with_number h = record h { number = h.number + 1 }

abbrev pub with_rows_used : Hand → Hand
with_rows_used h = record h { spare = 0 ∷ 0 ∷ [] }

-- an insert's new leaf, and its new inner row
abbrev pub leaf_row : Hand → ℕ
leaf_row hand = slice_index hand.spare 0

abbrev pub inner_row : Hand → ℕ
inner_row hand = slice_index hand.spare 1

-- ---- the path

abbrev pub loaded : ℕ → ℕ → EdgeWord
loaded word raw = record { word = word; raw = raw }

abbrev pub no_path : Path
no_path = record { ancestor = loaded 0 0; edge = loaded 0 0; key = 0; sibling = loaded 0 0 }

-- the row that is looked at
abbrev pub row_at : Path → ℕ
row_at path = row_of path.edge.raw

-- the path at the first edge, with the key of its row, and with the edge as the call's own exchange wrote it
abbrev pub from_root : Path → ℕ → ℕ → Path
from_root path word raw = record path { ancestor = loaded word raw; edge = loaded word raw }

abbrev pub with_key : Path → ℕ → Path
with_key path key = record path { key = key }

abbrev pub with_edge : Path → ℕ → Path
with_edge path to = record path { edge = loaded path.edge.word to }

-- one row further on; an edge that isn't frozen is the ancestor of what comes below it
abbrev pub ancestor_below : Path → EdgeWord
ancestor_below path = if is_frozen path.edge.raw then path.ancestor else path.edge

abbrev pub further : Path → ℕ → ℕ → Path
further path word raw = record path { ancestor = ancestor_below path; edge = loaded word raw }

-- with the edge whose row takes the place of what a clean-up cuts off
abbrev pub with_sibling : Path → ℕ → ℕ → Path
with_sibling path word raw = record path { sibling = loaded word raw }

-- ---- what comes next, from the end of a call to its beginning

-- the call ends with this reply, once all that is queued is written back
abbrev pub answers : Carried → Hand → Reply → HeldOp
answers op hand reply = stands (record op { reply = reply }) (Ends (complete_started hand))

-- a seek begins with the load of the edge that the tree hangs from
abbrev pub seeks : Carried → Hand → HeldOp
seeks op hand = stands op (Root (load_started (with_search hand) root_word))

abbrev pub op_begun : Hand → Call → HeldOp
op_begun hand call = seeks (record { call = call; reply = No; path = no_path }) (with_number hand)

-- ---- a clean-up

-- it has ended so: behind its own the call has its reply, and behind a help the seek begins again
abbrev pub cleaned_so : CleanUp → Carried → Hand → Exchanged → HeldOp
cleaned_so Own op hand how = answers op hand Yes
cleaned_so Help op hand Won = seeks op (with_helped hand)
cleaned_so Help op hand (Lost found) = seeks op hand
cleaned_so Help op hand (Exchange_worn word version) = answers op hand (Worn word version)

-- the ancestor's edge is swung to the row that the sibling leads to
abbrev pub swing_by : CleanUp → Carried → HeldExchange → Exchanging → HeldOp
swing_by clean_up op m Ready = stands op (Swing clean_up m)
swing_by clean_up op m (Tries slot) = stands op (Swing clean_up m)
swing_by clean_up op m TriesBare = stands op (Swing clean_up m)
swing_by clean_up op m WritesBack = stands op (Swing clean_up m)
swing_by clean_up op m Withdraws = stands op (Swing clean_up m)
swing_by clean_up op m (Lowers slot found) = stands op (Swing clean_up m)
swing_by clean_up op m (Ended how) = cleaned_so clean_up op m.hand how

abbrev pub swing_next : CleanUp → Carried → HeldExchange → HeldOp
swing_next clean_up op m = swing_by clean_up op m m.at

unfoldable pub swings : Layout → CleanUp → Carried → Hand → HeldOp
swings l clean_up op hand = swing_next clean_up op
    (exchange_started hand op.path.ancestor.word op.path.ancestor.raw (thawed_link op.path.sibling.raw) l.limit)

-- the sibling is frozen: won goes on to the swing, and else the clean-up ends
abbrev pub frozen_so : Layout → CleanUp → Carried → ℕ → Hand → Exchanged → HeldOp
frozen_so l clean_up op to hand Won = swings l clean_up (record op { path = with_sibling op.path op.path.sibling.word to }) hand
frozen_so l clean_up op to hand (Lost found) = cleaned_so clean_up op hand (Lost found)
frozen_so l clean_up op to hand (Exchange_worn word version) = cleaned_so clean_up op hand (Exchange_worn word version)

abbrev pub freeze_by : Layout → CleanUp → Carried → HeldExchange → Exchanging → HeldOp
freeze_by l clean_up op m Ready = stands op (Freeze clean_up m)
freeze_by l clean_up op m (Tries slot) = stands op (Freeze clean_up m)
freeze_by l clean_up op m TriesBare = stands op (Freeze clean_up m)
freeze_by l clean_up op m WritesBack = stands op (Freeze clean_up m)
freeze_by l clean_up op m Withdraws = stands op (Freeze clean_up m)
freeze_by l clean_up op m (Lowers slot found) = stands op (Freeze clean_up m)
freeze_by l clean_up op m (Ended how) = frozen_so l clean_up op m.to m.hand how

abbrev pub freeze_next : Layout → CleanUp → Carried → HeldExchange → HeldOp
freeze_next l clean_up op m = freeze_by l clean_up op m m.at

abbrev pub freezes : Layout → CleanUp → Carried → Hand → HeldOp
freezes l clean_up op hand = freeze_next l clean_up op
    (exchange_started hand op.path.sibling.word op.path.sibling.raw (frozen_link op.path.sibling.raw) l.limit)

-- the sibling is loaded: it is frozen, or has to be
unfoldable pub sibling_got : Layout → CleanUp → Carried → Hand → HeldOp
sibling_got l clean_up op hand = if is_frozen op.path.sibling.raw then swings l clean_up op hand else freezes l clean_up op hand

abbrev pub sibling_by : Layout → CleanUp → Carried → HeldLoad → Loading → HeldOp
sibling_by l clean_up op m Load_reads = stands op (Sibling clean_up m)
sibling_by l clean_up op m (Load_asks raw slot) = stands op (Sibling clean_up m)
sibling_by l clean_up op m (Load_makes_room raw first) = stands op (Sibling clean_up m)
sibling_by l clean_up op m (Load_has raw) = sibling_got l clean_up (record op { path = with_sibling op.path m.word raw }) m.hand

abbrev pub sibling_next : Layout → CleanUp → Carried → HeldLoad → HeldOp
sibling_next l clean_up op m = sibling_by l clean_up op m m.at

-- the edge is flagged, or frozen: behind a flag the sibling comes next, and a frozen edge without a flag is the sibling
-- itself, whose leaf stays
unfoldable pub cleans : Layout → CleanUp → Carried → Hand → HeldOp
cleans l clean_up op hand =
    if is_flagged op.path.edge.raw
    then stands op (Sibling clean_up (load_started hand (other_word op.path.edge.word)))
    else swings l clean_up (record op { path = with_sibling op.path op.path.edge.word op.path.edge.raw }) hand

-- ---- a remove

-- the edge to its leaf is flagged: won is the removal, and lost begins again
abbrev pub flagged_so : Layout → Carried → ℕ → Hand → Exchanged → HeldOp
flagged_so l op to hand Won = cleans l Own (record op { path = with_edge op.path to }) hand
flagged_so l op to hand (Lost found) = seeks op hand
flagged_so l op to hand (Exchange_worn word version) = answers op hand (Worn word version)

abbrev pub flag_by : Layout → Carried → HeldExchange → Exchanging → HeldOp
flag_by l op m Ready = stands op (Flag m)
flag_by l op m (Tries slot) = stands op (Flag m)
flag_by l op m TriesBare = stands op (Flag m)
flag_by l op m WritesBack = stands op (Flag m)
flag_by l op m Withdraws = stands op (Flag m)
flag_by l op m (Lowers slot found) = stands op (Flag m)
flag_by l op m (Ended how) = flagged_so l op m.to m.hand how

abbrev pub flag_next : Layout → Carried → HeldExchange → HeldOp
flag_next l op m = flag_by l op m m.at

abbrev pub flags : Layout → Carried → Hand → HeldOp
flags l op hand = flag_next l op (exchange_started hand op.path.edge.word op.path.edge.raw (to_row_flagged (row_at op.path)) l.limit)

-- ---- an insert

-- the edge is linked to the inner row: won is the insertion, by which both rows are used, and lost begins again
abbrev pub linked_so : Carried → Hand → Exchanged → HeldOp
linked_so op hand Won = answers op (with_rows_used hand) Yes
linked_so op hand (Lost found) = seeks op hand
linked_so op hand (Exchange_worn word version) = answers op hand (Worn word version)

abbrev pub link_by : Carried → HeldExchange → Exchanging → HeldOp
link_by op m Ready = stands op (Link m)
link_by op m (Tries slot) = stands op (Link m)
link_by op m TriesBare = stands op (Link m)
link_by op m WritesBack = stands op (Link m)
link_by op m Withdraws = stands op (Link m)
link_by op m (Lowers slot found) = stands op (Link m)
link_by op m (Ended how) = linked_so op m.hand how

abbrev pub link_next : Carried → HeldExchange → HeldOp
link_next op m = link_by op m m.at

abbrev pub links : Layout → Carried → Hand → HeldOp
links l op hand = link_next op (exchange_started hand op.path.edge.word op.path.edge.raw (to_row (inner_row hand)) l.limit)

-- The inner row's words: its key is the greater one of the call's and the old leaf's, and the leaf with the smaller key
-- is on its left.
abbrev pub inner_words : ℕ → ℕ → ℕ → ℕ → List ℕ
inner_words key old_key leaf old =
    (if nat_lt key old_key then old_key else key)
    ∷ (if nat_lt key old_key then to_row leaf else to_row old)
    ∷ (if nat_lt key old_key then to_row old else to_row leaf)
    ∷ []

-- they are stored, and the row is linked
abbrev pub inner_so : Layout → Carried → Hand → Stored → HeldOp
inner_so l op hand All_stored = links l op hand
inner_so l op hand (Store_worn word version) = answers op hand (Worn word version)

abbrev pub inner_by : Layout → Carried → HeldStore → Storing → HeldOp
inner_by l op m (Store_reads how) = stands op (InnerWords m)
inner_by l op m (Writes next) = stands op (InnerWords m)
inner_by l op m (Store_makes_room next first) = stands op (InnerWords m)
inner_by l op m (Store_ended how) = inner_so l op m.hand how

abbrev pub inner_next : Layout → Carried → HeldStore → HeldOp
inner_next l op m = inner_by l op m m.at

unfoldable pub stores_inner : Layout → Carried → Hand → HeldOp
stores_inner l op hand = inner_next l op
    (store_started hand (key_word l (inner_row hand)) (inner_words (key_of op.call) op.path.key (leaf_row hand) (row_at op.path)) l.limit)

-- the leaf's value word is stored
abbrev pub leaf_value_so : Layout → Carried → Hand → Stored → HeldOp
leaf_value_so l op hand All_stored = stores_inner l op hand
leaf_value_so l op hand (Store_worn word version) = answers op hand (Worn word version)

abbrev pub leaf_value_by : Layout → Carried → HeldStore → Storing → HeldOp
leaf_value_by l op m (Store_reads how) = stands op (LeafValue m)
leaf_value_by l op m (Writes next) = stands op (LeafValue m)
leaf_value_by l op m (Store_makes_room next first) = stands op (LeafValue m)
leaf_value_by l op m (Store_ended how) = leaf_value_so l op m.hand how

abbrev pub leaf_value_next : Layout → Carried → HeldStore → HeldOp
leaf_value_next l op m = leaf_value_by l op m m.at

abbrev pub stores_value : Layout → Carried → Hand → HeldOp
stores_value l op hand = leaf_value_next l op (store_started hand (value_word_of l (leaf_row hand)) (value_put op.call ∷ []) l.limit)

-- the leaf's key and its edges are stored; with values, its value word comes next
unfoldable pub leaf_so : Layout → Carried → Hand → Stored → HeldOp
leaf_so l op hand All_stored = if l.values then stores_value l op hand else stores_inner l op hand
leaf_so l op hand (Store_worn word version) = answers op hand (Worn word version)

abbrev pub leaf_by : Layout → Carried → HeldStore → Storing → HeldOp
leaf_by l op m (Store_reads how) = stands op (LeafWords m)
leaf_by l op m (Writes next) = stands op (LeafWords m)
leaf_by l op m (Store_makes_room next first) = stands op (LeafWords m)
leaf_by l op m (Store_ended how) = leaf_so l op m.hand how

abbrev pub leaf_next : Layout → Carried → HeldStore → HeldOp
leaf_next l op m = leaf_by l op m m.at

abbrev pub stores_leaf : Layout → Carried → Hand → HeldOp
stores_leaf l op hand = leaf_next l op (store_started hand (key_word l (leaf_row hand)) (key_of op.call ∷ 0 ∷ 0 ∷ []) l.limit)

-- two rows are taken, and stored
abbrev pub rows_so : Layout → Carried → Hand → Took → HeldOp
rows_so l op hand Taken = stores_leaf l op hand
rows_so l op hand (NoRow ticket) = answers op hand (Full ticket)

abbrev pub rows_by : Layout → Carried → HeldTake → Taking → HeldOp
rows_by l op m Draws = stands op (Rows m)
rows_by l op m (Take_ended took) = rows_so l op m.hand took

abbrev pub rows_next : Layout → Carried → HeldTake → HeldOp
rows_next l op m = rows_by l op m m.at

abbrev pub takes_rows : Layout → List ℕ → Carried → Hand → HeldOp
takes_rows l free op hand = rows_next l op (take_started free hand 2)

-- ---- the end of a seek

-- the value is loaded
abbrev pub value_by : Carried → HeldVLoad → VLoading → HeldOp
value_by op m V_reads = stands op (Value m)
value_by op m (V_has raw) = answers op m.hand (Found_value (value_of raw))

abbrev pub value_next : Carried → HeldVLoad → HeldOp
value_next op m = value_by op m m.at

-- its leaf has the call's key, or another one
abbrev pub found : Layout → Carried → Hand → Call → HeldOp
found l op hand (Insert k v) = answers op hand No
found l op hand (Remove k) = flags l op hand
found l op hand (Contains k) = answers op hand Yes
found l op hand (Get k) =
    if l.values then value_next op (v_load_started hand (value_word_of l (row_at op.path))) else answers op hand (Found_value 0)

abbrev pub absent : Layout → List ℕ → Carried → Hand → Call → HeldOp
absent l free op hand (Insert k v) = takes_rows l free op hand
absent l free op hand (Remove k) = answers op hand No
absent l free op hand (Contains k) = answers op hand No
absent l free op hand (Get k) = answers op hand No

-- the edge to it is plain, or a clean-up comes before the seek begins again
unfoldable pub sought : Layout → List ℕ → Carried → Hand → HeldOp
sought l free op hand =
    if is_plain op.path.edge.raw
    then (if op.path.key == key_of op.call then found l op hand op.call else absent l free op hand op.call)
    else cleans l Help op hand

-- ---- the seek

-- the edge below is loaded: it leads to a row, or the row that is looked at is a leaf
unfoldable pub edge_got : Layout → List ℕ → Carried → Hand → ℕ → ℕ → HeldOp
edge_got l free op hand word raw =
    if row_of raw == 0
    then sought l free op hand
    else stands (record op { path = further op.path word raw }) (Key (load_started hand (key_word l (row_of raw))))

abbrev pub edge_by : Layout → List ℕ → Carried → HeldLoad → Loading → HeldOp
edge_by l free op m Load_reads = stands op (Edge m)
edge_by l free op m (Load_asks raw slot) = stands op (Edge m)
edge_by l free op m (Load_makes_room raw first) = stands op (Edge m)
edge_by l free op m (Load_has raw) = edge_got l free op m.hand m.word raw

abbrev pub edge_next : Layout → List ℕ → Carried → HeldLoad → HeldOp
edge_next l free op m = edge_by l free op m m.at

-- the row's key is loaded: its edge on the side of the call's key comes next
abbrev pub key_got : Layout → Carried → Hand → ℕ → HeldOp
key_got l op hand key =
    stands (record op { path = with_key op.path key }) (Edge (load_started hand (side_word l (key_of op.call) key (row_at op.path))))

abbrev pub key_by : Layout → Carried → HeldLoad → Loading → HeldOp
key_by l op m Load_reads = stands op (Key m)
key_by l op m (Load_asks raw slot) = stands op (Key m)
key_by l op m (Load_makes_room raw first) = stands op (Key m)
key_by l op m (Load_has raw) = key_got l op m.hand (value_of raw)

abbrev pub key_next : Layout → Carried → HeldLoad → HeldOp
key_next l op m = key_by l op m m.at

-- the first edge is loaded
abbrev pub root_got : Layout → Carried → Hand → ℕ → ℕ → HeldOp
root_got l op hand word raw =
    stands (record op { path = from_root op.path word raw }) (Key (load_started hand (key_word l (row_of raw))))

abbrev pub root_by : Layout → Carried → HeldLoad → Loading → HeldOp
root_by l op m Load_reads = stands op (Root m)
root_by l op m (Load_asks raw slot) = stands op (Root m)
root_by l op m (Load_makes_room raw first) = stands op (Root m)
root_by l op m (Load_has raw) = root_got l op m.hand m.word raw

abbrev pub root_next : Layout → Carried → HeldLoad → HeldOp
root_next l op m = root_by l op m m.at

-- ---- the whole call

-- the event that comes next
abbrev pub asked_at : Place → At → Option Event
asked_at p (Root m) = load_asked m
asked_at p (Key m) = load_asked m
asked_at p (Edge m) = load_asked m
asked_at p (Rows m) = take_asked m
asked_at p (LeafWords m) = store_asked m
asked_at p (LeafValue m) = store_asked m
asked_at p (InnerWords m) = store_asked m
asked_at p (Link m) = exchange_asked p m
asked_at p (Flag m) = exchange_asked p m
asked_at p (Sibling clean_up m) = load_asked m
asked_at p (Freeze clean_up m) = exchange_asked p m
asked_at p (Swing clean_up m) = exchange_asked p m
asked_at p (Value m) = v_load_asked m
asked_at p (Ends m) = complete_asked m
asked_at p (Rests hand) = None

abbrev pub op_asked : Place → HeldOp → Option Event
op_asked p op = asked_at p op.at

-- the call after the event's answer
abbrev pub taken_at : Layout → Place → List ℕ → HeldOp → At → ℕ → HeldOp
taken_at l p free op (Root m) told = let n = load_taken p m told in root_next l (carried op) n
taken_at l p free op (Key m) told = let n = load_taken p m told in key_next l (carried op) n
taken_at l p free op (Edge m) told = let n = load_taken p m told in edge_next l free (carried op) n
taken_at l p free op (Rows m) told = let n = take_taken free m told in rows_next l (carried op) n
taken_at l p free op (LeafWords m) told = let n = store_taken m told in leaf_next l (carried op) n
taken_at l p free op (LeafValue m) told = let n = store_taken m told in leaf_value_next l (carried op) n
taken_at l p free op (InnerWords m) told = let n = store_taken m told in inner_next l (carried op) n
taken_at l p free op (Link m) told = let n = exchange_taken p m told in link_next (carried op) n
taken_at l p free op (Flag m) told = let n = exchange_taken p m told in flag_next l (carried op) n
taken_at l p free op (Sibling clean_up m) told = let n = load_taken p m told in sibling_next l clean_up (carried op) n
taken_at l p free op (Freeze clean_up m) told = let n = exchange_taken p m told in freeze_next l clean_up (carried op) n
taken_at l p free op (Swing clean_up m) told = let n = exchange_taken p m told in swing_next clean_up (carried op) n
taken_at l p free op (Value m) told = let n = v_load_taken m told in value_next (carried op) n
taken_at l p free op (Ends m) told = record op { at = Ends (complete_taken m told) }
taken_at l p free op (Rests hand) told = op

abbrev pub op_taken : Layout → Place → List ℕ → HeldOp → ℕ → HeldOp
op_taken l p free op told = taken_at l p free op op.at told

-- the Exchange comes next, or without a slot its second try
abbrev pub exchanges_now : Place → Exchanging → HeldExchange → Bool
exchanges_now p Ready m = is_nil m.hand.queue && is_none (p.slot m.word)
exchanges_now p (Tries slot) m = true
exchanges_now p TriesBare m = true
exchanges_now p WritesBack m = false
exchanges_now p Withdraws m = false
exchanges_now p (Lowers slot found) m = false
exchanges_now p (Ended how) m = false

-- by it an insert's rows are linked, or the leaf that a remove has found is flagged
abbrev pub effect_at : Place → At → Bool
effect_at p (Root m) = false
effect_at p (Key m) = false
effect_at p (Edge m) = false
effect_at p (Rows m) = false
effect_at p (LeafWords m) = false
effect_at p (LeafValue m) = false
effect_at p (InnerWords m) = false
effect_at p (Link m) = exchanges_now p m.at m
effect_at p (Flag m) = exchanges_now p m.at m
effect_at p (Sibling clean_up m) = false
effect_at p (Freeze clean_up m) = false
effect_at p (Swing clean_up m) = false
effect_at p (Value m) = false
effect_at p (Ends m) = false
effect_at p (Rests hand) = false

abbrev pub op_effect : Place → HeldOp → Bool
op_effect p op = effect_at p op.at

-- the hand so far
abbrev pub hand_at : At → Hand
hand_at (Root m) = m.hand
hand_at (Key m) = m.hand
hand_at (Edge m) = m.hand
hand_at (Rows m) = m.hand
hand_at (LeafWords m) = m.hand
hand_at (LeafValue m) = m.hand
hand_at (InnerWords m) = m.hand
hand_at (Link m) = m.hand
hand_at (Flag m) = m.hand
hand_at (Sibling clean_up m) = m.hand
hand_at (Freeze clean_up m) = m.hand
hand_at (Swing clean_up m) = m.hand
hand_at (Value m) = m.hand
hand_at (Ends m) = m.fence.hand
hand_at (Rests hand) = hand

-- its exchange under way
abbrev pub writing_at : At → Option Writing
writing_at (Root m) = None
writing_at (Key m) = None
writing_at (Edge m) = None
writing_at (Rows m) = None
writing_at (LeafWords m) = None
writing_at (LeafValue m) = None
writing_at (InnerWords m) = None
writing_at (Link m) = writing_of m
writing_at (Flag m) = writing_of m
writing_at (Sibling clean_up m) = None
writing_at (Freeze clean_up m) = writing_of m
writing_at (Swing clean_up m) = writing_of m
writing_at (Value m) = None
writing_at (Ends m) = None
writing_at (Rests hand) = None

-- the machine after its answer, before the call goes on
abbrev pub after_at : Place → List ℕ → At → ℕ → At
after_at p free (Root m) told = Root (load_taken p m told)
after_at p free (Key m) told = Key (load_taken p m told)
after_at p free (Edge m) told = Edge (load_taken p m told)
after_at p free (Rows m) told = Rows (take_taken free m told)
after_at p free (LeafWords m) told = LeafWords (store_taken m told)
after_at p free (LeafValue m) told = LeafValue (store_taken m told)
after_at p free (InnerWords m) told = InnerWords (store_taken m told)
after_at p free (Link m) told = Link (exchange_taken p m told)
after_at p free (Flag m) told = Flag (exchange_taken p m told)
after_at p free (Sibling clean_up m) told = Sibling clean_up (load_taken p m told)
after_at p free (Freeze clean_up m) told = Freeze clean_up (exchange_taken p m told)
after_at p free (Swing clean_up m) told = Swing clean_up (exchange_taken p m told)
after_at p free (Value m) told = Value (v_load_taken m told)
after_at p free (Ends m) told = Ends (complete_taken m told)
after_at p free (Rests hand) told = Rests hand

-- a hand's spare rows fit into a link
pub record FitsLink (hand : Hand) : Type 0 where
  pub leaf : leaf_row hand < 2 ^ 22
  pub inner : inner_row hand < 2 ^ 22
