-- The calls of the list: the event that each asks next, and what an answer makes of it.
use Rattle.std.specs.Prelude.{◌≡◌, ℕ, ◌+◌, ◌==◌, ◌&&◌, ◌<◌, ◌≤◌, ◌^◌, nat_lt, not, Bool, true, false, List, [], ◌∷◌, Option, Some, None, is_none, slice_set, slice_index, if◌then◌else◌}
use Rattle.flit_words.specs.declared.layouts.Layout.{Layout}
use Rattle.flit_words.specs.declared.links.Link.{Link as LinkOf}
use Rattle.flit_words.specs.declared.limits.TheConstants.{MOST_WORKERS}
use Rattle.flit_words.specs.Layouts.{row_word_of, value_word_of, head_of_key, last_row_of}
use Rattle.flit_words.specs.Words.{value_of}
use Rattle.flit_words.specs.Links.{link_of, link_value}
use Rattle.flit_model.specs.declared.events.Event.{Event}
use Rattle.flit_model.specs.declared.calls.Call.{Call}
use Rattle.flit_model.specs.declared.calls.Call.TheVariants.{Insert, Remove, Contains, Get}
use Rattle.flit_model.specs.declared.calls.Reply.{Reply}
use Rattle.flit_model.specs.declared.calls.Reply.TheVariants.{Yes, No, Found as Found_value, Full, Worn}
use Rattle.flit_place.specs.Tags.{Place}
use Rattle.flit_place.specs.declared.writings.Writing.{Writing}
use Rattle.flit_pv.specs.declared.hands.Hand.{Hand}
use Rattle.flit_pv.specs.VLoads.{HeldVLoad, v_load_started, v_load_asked, v_load_taken}
use Rattle.flit_pv.specs.declared.v_loads.VLoading.{VLoading}
use Rattle.flit_pv.specs.declared.v_loads.VLoading.TheVariants.{Reads as V_reads, Has as V_has}
use Rattle.flit_pv.specs.Confirms.{HeldConfirm, confirm_started, confirm_asked, confirm_taken, confirm_left}
use Rattle.flit_pv.specs.Exchanges.{HeldExchange, exchange_started, exchange_asked, exchange_taken, writing_of}
use Rattle.flit_pv.specs.declared.exchanges.Exchanging.{Exchanging}
use Rattle.flit_pv.specs.declared.exchanges.Exchanging.TheVariants.{Ready, Tries, TriesBare, WritesBack, Withdraws, Lowers, Ended}
use Rattle.flit_pv.specs.declared.exchanges.Exchanged.{Exchanged}
use Rattle.flit_pv.specs.declared.exchanges.Exchanged.TheVariants.{Won, Lost, Worn as Exchange_worn}
use Rattle.flit_pv.specs.Stores.{HeldStore, store_started, store_asked, store_taken}
use Rattle.flit_pv.specs.declared.stores.Storing.{Storing}
use Rattle.flit_pv.specs.declared.stores.Storing.TheVariants.{Reads as Store_reads, MakesRoom as Store_makes_room, Writes, Ended as Store_ended}
use Rattle.flit_pv.specs.declared.stores.Stored.{Stored}
use Rattle.flit_pv.specs.declared.stores.Stored.TheVariants.{Stored as All_stored, Worn as Store_worn}
use Rattle.flit_pv.specs.Queues.{is_nil}
use Rattle.flit_pv.specs.Hands.{more}
use Rattle.flit_pv.specs.Fences.{complete_started, complete_asked, complete_taken}
use Rattle.flit_rows.specs.Taking.{HeldTake, take_started, take_asked, take_taken}
use Rattle.flit_rows.specs.declared.take_row.Took.{Took}
use Rattle.flit_rows.specs.declared.take_row.Took.TheVariants.{Taken, None as NoRow}
use Rattle.flit_rows.specs.declared.take_row.Taking.{Taking}
use Rattle.flit_rows.specs.declared.take_row.Taking.TheVariants.{Draws, Ended as Take_ended}
use Rattle.flit_structure.specs.Meanings.{key_of, value_put}
use Rattle.flit_list_steps.specs.declared.operations.LinkWord.{LinkWord}
use Rattle.flit_list_steps.specs.declared.operations.Path.{Path}
use Rattle.flit_list_steps.specs.declared.operations.Goal.{Goal}
use Rattle.flit_list_steps.specs.declared.operations.Goal.TheVariants.{Help as To_help, Found as To_found, Absent as To_absent}
use Rattle.flit_list_steps.specs.declared.operations.Which.{Which}
use Rattle.flit_list_steps.specs.declared.operations.Which.TheVariants.{Back as The_back, Pred as The_pred, Next as The_next}
use Rattle.flit_list_steps.specs.Operations.{At, Head, Next, Key, Confirming, Help, Row, Words, RowValue, Link, Mark, Tidy, Value, Ends, Rests, HeldOp}

-- what a call carries from one machine to the next
pub record Carried : Type 0 where
  pub call : Call
  pub reply : Reply
  pub path : Path

abbrev pub carried : HeldOp → Carried
carried op = record { call = op.call; reply = op.reply; path = op.path }

-- it is at this machine
abbrev pub stands : Carried → At → HeldOp
stands op at = record { call = op.call; reply = op.reply; path = op.path; at = at }

-- ---- words and links

-- the row that a link word leads to, and whether the row that holds the word is marked
abbrev pub row_of : ℕ → ℕ
row_of raw = (link_of (value_of raw)).row

abbrev pub is_marked : ℕ → Bool
is_marked raw = (link_of (value_of raw)).mark

-- the link to a row, and the same with the mark of a remover, who is named where the layout has values
abbrev pub to_row : ℕ → ℕ
to_row row = link_value (record { row = row; mark = false; frozen = false; by = 0 })

abbrev pub remover : Layout → Hand → ℕ
remover l hand = if l.values then hand.name else 0

abbrev pub to_row_marked : ℕ → ℕ → ℕ
to_row_marked row by = link_value (record { row = row; mark = true; frozen = false; by = by })

-- a row's key word and its link word
abbrev pub key_word : Layout → ℕ → ℕ
key_word l row = row_word_of l row 0

abbrev pub link_word : Layout → ℕ → ℕ
link_word l row = row_word_of l row 1

-- ---- the hand

-- with one more search begun, one more removal helped, the next number, and its first spare row used
abbrev pub with_search : Hand → Hand
with_search h = record h { tally = record h.tally { tries = more h.tally.tries } }

abbrev pub with_helped : Hand → Hand
with_helped h = record h { tally = record h.tally { helped = more h.tally.helped } }

abbrev pub with_number : Hand → Hand
with_number h = record h { number = h.number + 1 }

abbrev pub with_row_used : Hand → Hand
with_row_used h = record h { spare = slice_set h.spare 0 0 }

-- the row of an insert
abbrev pub own_row : Hand → ℕ
own_row hand = slice_index hand.spare 0

-- ---- the path

abbrev pub loaded : ℕ → ℕ → LinkWord
loaded word raw = record { word = word; raw = raw; confirmed = false }

abbrev pub no_path : Path
no_path = record { back = None; pred = loaded 0 0; next = loaded 0 0 }

abbrev pub is_confirmed : LinkWord → LinkWord
is_confirmed x = record x { confirmed = true }

-- the path from a head, with the next link word, one row further on, and with an unlinked row left out
abbrev pub from_head : Path → ℕ → ℕ → Path
from_head path word raw = record path { back = None; pred = loaded word raw }

abbrev pub with_next : Path → ℕ → ℕ → Path
with_next path word raw = record path { next = loaded word raw }

abbrev pub further : Path → Path
further path = record path { back = Some path.pred; pred = path.next }

abbrev pub unlinked : Path → ℕ → Path
unlinked path to = record path { pred = record { word = path.pred.word; raw = to; confirmed = true } }

-- the row that is looked at
abbrev pub row_at : Path → ℕ
row_at path = row_of path.pred.raw

-- one word of the path is confirmed
abbrev pub back_confirmed : Option LinkWord → Option LinkWord
back_confirmed None = None
back_confirmed (Some x) = Some (is_confirmed x)

abbrev pub path_confirmed : Path → Which → Path
path_confirmed path The_back = record path { back = back_confirmed path.back }
path_confirmed path The_pred = record path { pred = is_confirmed path.pred }
path_confirmed path The_next = record path { next = is_confirmed path.next }

abbrev pub with_confirmed : Carried → Which → Carried
with_confirmed op which = record op { path = path_confirmed op.path which }

-- ---- what comes next, from the end of a call to its beginning

-- the call ends with this reply, once all that is queued is written back
abbrev pub answers : Carried → Hand → Reply → HeldOp
answers op hand reply = stands (record op { reply = reply }) (Ends (complete_started hand))

-- a search begins with the load of the head of the key's bucket
abbrev pub searches : Layout → Carried → Hand → HeldOp
searches l op hand = stands op (Head (v_load_started (with_search hand) (head_of_key l (key_of op.call))))

abbrev pub op_begun : Layout → Hand → Call → HeldOp
op_begun l hand call = searches l (record { call = call; reply = No; path = no_path }) (with_number hand)

-- the row that the call has marked is unlinked, or another does it
abbrev pub tidy_by : Carried → HeldExchange → Exchanging → HeldOp
tidy_by op m Ready = stands op (Tidy m)
tidy_by op m (Tries slot) = stands op (Tidy m)
tidy_by op m TriesBare = stands op (Tidy m)
tidy_by op m WritesBack = stands op (Tidy m)
tidy_by op m Withdraws = stands op (Tidy m)
tidy_by op m (Lowers slot found) = stands op (Tidy m)
tidy_by op m (Ended how) = answers op m.hand Yes

abbrev pub tidy_next : Carried → HeldExchange → HeldOp
tidy_next op m = tidy_by op m m.at

-- the exchange of `pred` to the row behind that which is looked at
abbrev pub unlinking : Layout → Carried → Hand → HeldExchange
unlinking l op hand = exchange_started hand op.path.pred.word op.path.pred.raw (to_row (row_of op.path.next.raw)) l.limit

abbrev pub tidies : Layout → Carried → Hand → HeldOp
tidies l op hand = tidy_next op (unlinking l op hand)

-- the row is marked: won is the removal, and lost begins again
abbrev pub marked_so : Layout → Carried → Hand → Exchanged → HeldOp
marked_so l op hand Won = tidies l op hand
marked_so l op hand (Lost found) = searches l op hand
marked_so l op hand (Exchange_worn word version) = answers op hand (Worn word version)

abbrev pub mark_by : Layout → Carried → HeldExchange → Exchanging → HeldOp
mark_by l op m Ready = stands op (Mark m)
mark_by l op m (Tries slot) = stands op (Mark m)
mark_by l op m TriesBare = stands op (Mark m)
mark_by l op m WritesBack = stands op (Mark m)
mark_by l op m Withdraws = stands op (Mark m)
mark_by l op m (Lowers slot found) = stands op (Mark m)
mark_by l op m (Ended how) = marked_so l op m.hand how

abbrev pub mark_next : Layout → Carried → HeldExchange → HeldOp
mark_next l op m = mark_by l op m m.at

abbrev pub marks : Layout → Carried → Hand → HeldOp
marks l op hand = mark_next l op
    (exchange_started hand op.path.next.word op.path.next.raw (to_row_marked (row_of op.path.next.raw) (remover l hand)) l.limit)

-- the insert's row is linked: won is the insertion, by which its row is used, and lost begins again
abbrev pub linked_so : Layout → Carried → Hand → Exchanged → HeldOp
linked_so l op hand Won = answers op (with_row_used hand) Yes
linked_so l op hand (Lost found) = searches l op hand
linked_so l op hand (Exchange_worn word version) = answers op hand (Worn word version)

abbrev pub link_by : Layout → Carried → HeldExchange → Exchanging → HeldOp
link_by l op m Ready = stands op (Link m)
link_by l op m (Tries slot) = stands op (Link m)
link_by l op m TriesBare = stands op (Link m)
link_by l op m WritesBack = stands op (Link m)
link_by l op m Withdraws = stands op (Link m)
link_by l op m (Lowers slot found) = stands op (Link m)
link_by l op m (Ended how) = linked_so l op m.hand how

abbrev pub link_next : Layout → Carried → HeldExchange → HeldOp
link_next l op m = link_by l op m m.at

abbrev pub links : Layout → Carried → Hand → HeldOp
links l op hand = link_next l op (exchange_started hand op.path.pred.word op.path.pred.raw (to_row (own_row hand)) l.limit)

-- the row's value word is stored, and the row is linked
abbrev pub row_value_so : Layout → Carried → Hand → Stored → HeldOp
row_value_so l op hand All_stored = links l op hand
row_value_so l op hand (Store_worn word version) = answers op hand (Worn word version)

abbrev pub row_value_by : Layout → Carried → HeldStore → Storing → HeldOp
row_value_by l op m (Store_reads how) = stands op (RowValue m)
row_value_by l op m (Writes next) = stands op (RowValue m)
row_value_by l op m (Store_makes_room next first) = stands op (RowValue m)
row_value_by l op m (Store_ended how) = row_value_so l op m.hand how

abbrev pub row_value_next : Layout → Carried → HeldStore → HeldOp
row_value_next l op m = row_value_by l op m m.at

-- the row's key and link are stored; with values, its value word comes next
abbrev pub stores_value : Layout → Carried → Hand → ℕ → HeldOp
stores_value l op hand value = row_value_next l op (store_started hand (value_word_of l (own_row hand)) (value ∷ []) l.limit)

abbrev pub words_so : Layout → Carried → ℕ → Hand → Stored → HeldOp
words_so l op value hand All_stored = if l.values then stores_value l op hand value else links l op hand
words_so l op value hand (Store_worn word version) = answers op hand (Worn word version)

abbrev pub words_by : Layout → Carried → ℕ → HeldStore → Storing → HeldOp
words_by l op value m (Store_reads how) = stands op (Words m)
words_by l op value m (Writes next) = stands op (Words m)
words_by l op value m (Store_makes_room next first) = stands op (Words m)
words_by l op value m (Store_ended how) = words_so l op value m.hand how

abbrev pub words_next : Layout → Carried → HeldStore → HeldOp
words_next l op m = words_by l op (value_put op.call) m m.at

abbrev pub stores : Layout → Carried → Hand → HeldOp
stores l op hand = words_next l op (store_started hand (key_word l (own_row hand)) (key_of op.call ∷ to_row (row_at op.path) ∷ []) l.limit)

-- a row is taken, and stored
abbrev pub row_so : Layout → Carried → Hand → Took → HeldOp
row_so l op hand Taken = stores l op hand
row_so l op hand (NoRow ticket) = answers op hand (Full ticket)

abbrev pub row_by : Layout → Carried → HeldTake → Taking → HeldOp
row_by l op m Draws = stands op (Row m)
row_by l op m (Take_ended took) = row_so l op m.hand took

abbrev pub row_next : Layout → Carried → HeldTake → HeldOp
row_next l op m = row_by l op m m.at

abbrev pub takes_row : Layout → List ℕ → Carried → Hand → HeldOp
takes_row l free op hand = row_next l op (take_started free hand 1)

-- the value is loaded
abbrev pub value_by : Carried → HeldVLoad → VLoading → HeldOp
value_by op m V_reads = stands op (Value m)
value_by op m (V_has raw) = answers op m.hand (Found_value (value_of raw))

abbrev pub value_next : Carried → HeldVLoad → HeldOp
value_next op m = value_by op m m.at

-- ---- the end of a search, and of its confirmations

abbrev pub found : Layout → Carried → Hand → Call → HeldOp
found l op hand (Insert k v) = answers op hand No
found l op hand (Remove k) = marks l op hand
found l op hand (Contains k) = answers op hand Yes
found l op hand (Get k) =
    if l.values then value_next op (v_load_started hand (value_word_of l (row_at op.path))) else answers op hand (Found_value 0)

abbrev pub absent : Layout → List ℕ → Carried → Hand → Call → HeldOp
absent l free op hand (Insert k v) = takes_row l free op hand
absent l free op hand (Remove k) = answers op hand No
absent l free op hand (Contains k) = answers op hand No
absent l free op hand (Get k) = answers op hand No

-- the exchange that unlinks a marked row, which may be worn at once
abbrev pub help_starts : Carried → HeldExchange → Exchanging → HeldOp
help_starts op m Ready = stands op (Help m)
help_starts op m (Tries slot) = stands op (Help m)
help_starts op m TriesBare = stands op (Help m)
help_starts op m WritesBack = stands op (Help m)
help_starts op m Withdraws = stands op (Help m)
help_starts op m (Lowers slot found) = stands op (Help m)
help_starts op m (Ended Won) = stands op (Help m)
help_starts op m (Ended (Lost found)) = stands op (Help m)
help_starts op m (Ended (Exchange_worn word version)) = answers op m.hand (Worn word version)

abbrev pub helps : Layout → Carried → Hand → HeldOp
helps l op hand = let m = unlinking l op hand in help_starts op m m.at

unfoldable pub reached : Layout → List ℕ → Carried → Hand → Goal → HeldOp
reached l free op hand To_help = helps l op hand
reached l free op hand To_found = found l op hand op.call
reached l free op hand To_absent = absent l free op hand op.call

-- the words of the path are confirmed, each where it wasn't: `back`, `pred`, and but for an absent key `next`. Where a
-- confirmation makes no event, it has ended as it starts
abbrev pub confirms_by : Place → Carried → Goal → Which → HeldConfirm → HeldOp → HeldOp
confirms_by p op goal which m then_op = if is_none (confirm_asked p m) then then_op else stands op (Confirming goal which m)

abbrev pub wants_next : Goal → Bool
wants_next To_help = true
wants_next To_found = true
wants_next To_absent = false

abbrev pub next_confirmed : Layout → List ℕ → Carried → Hand → Goal → HeldOp
next_confirmed l free op hand goal = reached l free (with_confirmed op The_next) hand goal

unfoldable pub confirms_next : Layout → Place → List ℕ → Carried → Hand → Goal → HeldOp
confirms_next l p free op hand goal =
    if wants_next goal && not op.path.next.confirmed
    then (let m = confirm_started hand op.path.next.word op.path.next.raw in
    confirms_by p op goal The_next m (next_confirmed l free op (confirm_left m) goal))
    else reached l free op hand goal

abbrev pub pred_confirmed : Layout → Place → List ℕ → Carried → Hand → Goal → HeldOp
pred_confirmed l p free op hand goal = confirms_next l p free (with_confirmed op The_pred) hand goal

unfoldable pub confirms_pred : Layout → Place → List ℕ → Carried → Hand → Goal → HeldOp
confirms_pred l p free op hand goal =
    if op.path.pred.confirmed
    then confirms_next l p free op hand goal
    else (let m = confirm_started hand op.path.pred.word op.path.pred.raw in
    confirms_by p op goal The_pred m (pred_confirmed l p free op (confirm_left m) goal))

abbrev pub back_is_confirmed : Layout → Place → List ℕ → Carried → Hand → Goal → HeldOp
back_is_confirmed l p free op hand goal = confirms_pred l p free (with_confirmed op The_back) hand goal

abbrev pub confirms_back : Layout → Place → List ℕ → Carried → Hand → Goal → Option LinkWord → HeldOp
confirms_back l p free op hand goal None = confirms_pred l p free op hand goal
confirms_back l p free op hand goal (Some back) =
    if back.confirmed
    then confirms_pred l p free op hand goal
    else (let m = confirm_started hand back.word back.raw in
    confirms_by p op goal The_back m (back_is_confirmed l p free op (confirm_left m) goal))

unfoldable pub confirms : Layout → Place → List ℕ → Carried → Hand → Goal → HeldOp
confirms l p free op hand goal = confirms_back l p free op hand goal op.path.back

abbrev pub confirmed : Layout → Place → List ℕ → Carried → Hand → Goal → Which → HeldOp
confirmed l p free op hand goal The_back = back_is_confirmed l p free op hand goal
confirmed l p free op hand goal The_pred = pred_confirmed l p free op hand goal
confirmed l p free op hand goal The_next = next_confirmed l free op hand goal

abbrev pub confirming_next : Layout → Place → List ℕ → Carried → Goal → Which → HeldConfirm → HeldOp
confirming_next l p free op goal which m = confirms_by p op goal which m (confirmed l p free op (confirm_left m) goal which)

-- ---- the search

-- the row that `pred` leads to is looked at
unfoldable pub looks : Layout → Place → List ℕ → Carried → Hand → HeldOp
looks l p free op hand =
    if row_at op.path == 0
    then confirms l p free op hand To_absent
    else stands op (Next (v_load_started hand (link_word l (row_at op.path))))

-- a marked row is unlinked: won goes on behind it, and lost begins again
abbrev pub helped_so : Layout → Place → List ℕ → Carried → ℕ → Hand → Exchanged → HeldOp
helped_so l p free op to hand Won = looks l p free (record op { path = unlinked op.path to }) (with_helped hand)
helped_so l p free op to hand (Lost found) = searches l op hand
helped_so l p free op to hand (Exchange_worn word version) = answers op hand (Worn word version)

abbrev pub help_by : Layout → Place → List ℕ → Carried → HeldExchange → Exchanging → HeldOp
help_by l p free op m Ready = stands op (Help m)
help_by l p free op m (Tries slot) = stands op (Help m)
help_by l p free op m TriesBare = stands op (Help m)
help_by l p free op m WritesBack = stands op (Help m)
help_by l p free op m Withdraws = stands op (Help m)
help_by l p free op m (Lowers slot found) = stands op (Help m)
help_by l p free op m (Ended how) = helped_so l p free op m.to m.hand how

abbrev pub help_next : Layout → Place → List ℕ → Carried → HeldExchange → HeldOp
help_next l p free op m = help_by l p free op m m.at

-- the key is loaded: it is the call's, or greater, or the search goes on behind the row
abbrev pub key_got : Layout → Place → List ℕ → Carried → Hand → ℕ → HeldOp
key_got l p free op hand key =
    if key == key_of op.call
    then confirms l p free op hand To_found
    else (if nat_lt (key_of op.call) key
    then confirms l p free op hand To_absent
    else looks l p free (record op { path = further op.path }) hand)

abbrev pub key_by : Layout → Place → List ℕ → Carried → HeldVLoad → VLoading → HeldOp
key_by l p free op m V_reads = stands op (Key m)
key_by l p free op m (V_has raw) = key_got l p free op m.hand (value_of raw)

abbrev pub key_next : Layout → Place → List ℕ → Carried → HeldVLoad → HeldOp
key_next l p free op m = key_by l p free op m m.at

-- the row's link is loaded: it is marked, or its key comes next
abbrev pub link_got : Layout → Place → List ℕ → Carried → Hand → ℕ → HeldOp
link_got l p free op hand raw =
    if is_marked raw then confirms l p free op hand To_help else stands op (Key (v_load_started hand (key_word l (row_at op.path))))

abbrev pub next_by : Layout → Place → List ℕ → Carried → HeldVLoad → VLoading → HeldOp
next_by l p free op m V_reads = stands op (Next m)
next_by l p free op m (V_has raw) = link_got l p free (record op { path = with_next op.path m.word raw }) m.hand raw

abbrev pub next_next : Layout → Place → List ℕ → Carried → HeldVLoad → HeldOp
next_next l p free op m = next_by l p free op m m.at

abbrev pub head_by : Layout → Place → List ℕ → Carried → HeldVLoad → VLoading → HeldOp
head_by l p free op m V_reads = stands op (Head m)
head_by l p free op m (V_has raw) = looks l p free (record op { path = from_head op.path m.word raw }) m.hand

abbrev pub head_next : Layout → Place → List ℕ → Carried → HeldVLoad → HeldOp
head_next l p free op m = head_by l p free op m m.at

-- ---- the whole call

-- the event that comes next
abbrev pub asked_at : Place → At → Option Event
asked_at p (Head m) = v_load_asked m
asked_at p (Next m) = v_load_asked m
asked_at p (Key m) = v_load_asked m
asked_at p (Confirming goal which m) = confirm_asked p m
asked_at p (Help m) = exchange_asked p m
asked_at p (Row m) = take_asked m
asked_at p (Words m) = store_asked m
asked_at p (RowValue m) = store_asked m
asked_at p (Link m) = exchange_asked p m
asked_at p (Mark m) = exchange_asked p m
asked_at p (Tidy m) = exchange_asked p m
asked_at p (Value m) = v_load_asked m
asked_at p (Ends m) = complete_asked m
asked_at p (Rests hand) = None

abbrev pub op_asked : Place → HeldOp → Option Event
op_asked p op = asked_at p op.at

-- the call after the event's answer
abbrev pub taken_at : Layout → Place → List ℕ → HeldOp → At → ℕ → HeldOp
taken_at l p free op (Head m) told = let n = v_load_taken m told in head_next l p free (carried op) n
taken_at l p free op (Next m) told = let n = v_load_taken m told in next_next l p free (carried op) n
taken_at l p free op (Key m) told = let n = v_load_taken m told in key_next l p free (carried op) n
taken_at l p free op (Confirming goal which m) told =
    let n = confirm_taken p m told in confirming_next l p free (carried op) goal which n
taken_at l p free op (Help m) told = let n = exchange_taken p m told in help_next l p free (carried op) n
taken_at l p free op (Row m) told = let n = take_taken free m told in row_next l (carried op) n
taken_at l p free op (Words m) told = let n = store_taken m told in words_next l (carried op) n
taken_at l p free op (RowValue m) told = let n = store_taken m told in row_value_next l (carried op) n
taken_at l p free op (Link m) told = let n = exchange_taken p m told in link_next l (carried op) n
taken_at l p free op (Mark m) told = let n = exchange_taken p m told in mark_next l (carried op) n
taken_at l p free op (Tidy m) told = let n = exchange_taken p m told in tidy_next (carried op) n
taken_at l p free op (Value m) told = let n = v_load_taken m told in value_next (carried op) n
taken_at l p free op (Ends m) told = record op { at = Ends (complete_taken m told) }
taken_at l p free op (Rests hand) told = op

abbrev pub op_taken : Layout → Place → List ℕ → HeldOp → ℕ → HeldOp
op_taken l p free op told = taken_at l p free op op.at told

-- the Exchange comes next, or without a slot its second try
abbrev pub exchanges_now : Place → Exchanging → HeldExchange → Bool
exchanges_now p Ready m = is_nil m.hand.queue && is_none (p.slot m.word)
exchanges_now p (Tries slot) m = true
exchanges_now p TriesBare m = true
exchanges_now p WritesBack m = false
exchanges_now p Withdraws m = false
exchanges_now p (Lowers slot found) m = false
exchanges_now p (Ended how) m = false

-- by it an insert's row is linked, or the row that a remove has found is marked
abbrev pub effect_at : Place → At → Bool
effect_at p (Head m) = false
effect_at p (Next m) = false
effect_at p (Key m) = false
effect_at p (Confirming goal which m) = false
effect_at p (Help m) = false
effect_at p (Row m) = false
effect_at p (Words m) = false
effect_at p (RowValue m) = false
effect_at p (Link m) = exchanges_now p m.at m
effect_at p (Mark m) = exchanges_now p m.at m
effect_at p (Tidy m) = false
effect_at p (Value m) = false
effect_at p (Ends m) = false
effect_at p (Rests hand) = false

abbrev pub op_effect : Place → HeldOp → Bool
op_effect p op = effect_at p op.at

-- the hand so far
abbrev pub hand_at : At → Hand
hand_at (Head m) = m.hand
hand_at (Next m) = m.hand
hand_at (Key m) = m.hand
hand_at (Confirming goal which m) = m.hand
hand_at (Help m) = m.hand
hand_at (Row m) = m.hand
hand_at (Words m) = m.hand
hand_at (RowValue m) = m.hand
hand_at (Link m) = m.hand
hand_at (Mark m) = m.hand
hand_at (Tidy m) = m.hand
hand_at (Value m) = m.hand
hand_at (Ends m) = m.fence.hand
hand_at (Rests hand) = hand

-- its exchange under way
abbrev pub writing_at : At → Option Writing
writing_at (Head m) = None
writing_at (Next m) = None
writing_at (Key m) = None
writing_at (Confirming goal which m) = None
writing_at (Help m) = writing_of m
writing_at (Row m) = None
writing_at (Words m) = None
writing_at (RowValue m) = None
writing_at (Link m) = writing_of m
writing_at (Mark m) = writing_of m
writing_at (Tidy m) = writing_of m
writing_at (Value m) = None
writing_at (Ends m) = None
writing_at (Rests hand) = None

-- the machine after its answer, before the call goes on
abbrev pub after_at : Place → List ℕ → At → ℕ → At
after_at p free (Head m) told = Head (v_load_taken m told)
after_at p free (Next m) told = Next (v_load_taken m told)
after_at p free (Key m) told = Key (v_load_taken m told)
after_at p free (Confirming goal which m) told = Confirming goal which (confirm_taken p m told)
after_at p free (Help m) told = Help (exchange_taken p m told)
after_at p free (Row m) told = Row (take_taken free m told)
after_at p free (Words m) told = Words (store_taken m told)
after_at p free (RowValue m) told = RowValue (store_taken m told)
after_at p free (Link m) told = Link (exchange_taken p m told)
after_at p free (Mark m) told = Mark (exchange_taken p m told)
after_at p free (Tidy m) told = Tidy (exchange_taken p m told)
after_at p free (Value m) told = Value (v_load_taken m told)
after_at p free (Ends m) told = Ends (complete_taken m told)
after_at p free (Rests hand) told = Rests hand

-- a hand's name and its row fit into a link
pub record FitsLink (hand : Hand) : Type 0 where
  pub name : hand.name < 2 ^ 8
  pub row : own_row hand < 2 ^ 22
