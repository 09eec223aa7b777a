-- A call of a list or a hash table, as the crew looks at it: the machine that it is in, how it goes on where that has ended,
-- and which exchange is its update.
use Rattle.std.specs.Prelude.{ℕ, Bool, true, false, List, [], ◌∷◌}
use Rattle.flit_words.specs.declared.layouts.Layout.{Layout}
use Rattle.flit_words.specs.Layouts.{value_word_of}
use Rattle.flit_model.specs.Histories.{is_update_by}
use Rattle.flit_model.specs.declared.calls.Call.{Call}
use Rattle.flit_model.specs.declared.calls.Reply.{Reply}
use Rattle.flit_place.specs.Tags.{Place}
use Rattle.flit_pv.specs.VLoads.{HeldVLoad}
use Rattle.flit_pv.specs.Confirms.{HeldConfirm}
use Rattle.flit_pv.specs.Exchanges.{HeldExchange}
use Rattle.flit_pv.specs.Stores.{HeldStore}
use Rattle.flit_pv.specs.Fences.{HeldComplete}
use Rattle.flit_rows.specs.Taking.{HeldTake}
use Rattle.flit_runs.specs.Workings.{Working, Idles, Loads, VLoads, Confirms, Exchanges, VExchanges, Stores, Fences, Completes, Evicts}
use Rattle.flit_structure.specs.Meanings.{key_of, value_put}
use Rattle.flit_crew.specs.Machines.{Machine, Works, Takes}
use Rattle.flit_crew.specs.Fillings.{Filling}
use Rattle.flit_crew.specs.Anatomies.{Anatomy}
use Rattle.flit_list_steps.specs.declared.operations.Path.{Path}
use Rattle.flit_list_steps.specs.Operations.{At, Head, Next, Key, Confirming, Help, Row, Words, RowValue, Link, Mark, Tidy, Value, Ends, Rests, HeldOp}
use Rattle.flit_list_steps.specs.Steps.{Carried, carried, stands, key_word, own_row, row_at, to_row, op_begun, head_next, next_next, key_next, confirming_next, help_next, row_next, words_next, row_value_next, link_next, mark_next, tidy_next, value_next}

abbrev pub machine_at : At → Machine
machine_at (Head m) = Works (VLoads m)
machine_at (Next m) = Works (VLoads m)
machine_at (Key m) = Works (VLoads m)
machine_at (Confirming goal which m) = Works (Confirms m)
machine_at (Help m) = Works (Exchanges m)
machine_at (Row m) = Takes m
machine_at (Words m) = Works (Stores m)
machine_at (RowValue m) = Works (Stores m)
machine_at (Link m) = Works (Exchanges m)
machine_at (Mark m) = Works (Exchanges m)
machine_at (Tidy m) = Works (Exchanges m)
machine_at (Value m) = Works (VLoads m)
machine_at (Ends m) = Works (Completes m)
machine_at (Rests hand) = Works (Idles hand)

-- ---- the phase with another machine of its kind

abbrev pub with_v_load : At → HeldVLoad → At
with_v_load (Head m) n = Head n
with_v_load (Next m) n = Next n
with_v_load (Key m) n = Key n
with_v_load (Confirming goal which m) n = Confirming goal which m
with_v_load (Help m) n = Help m
with_v_load (Row m) n = Row m
with_v_load (Words m) n = Words m
with_v_load (RowValue m) n = RowValue m
with_v_load (Link m) n = Link m
with_v_load (Mark m) n = Mark m
with_v_load (Tidy m) n = Tidy m
with_v_load (Value m) n = Value n
with_v_load (Ends m) n = Ends m
with_v_load (Rests hand) n = Rests hand

abbrev pub with_confirm : At → HeldConfirm → At
with_confirm (Head m) n = Head m
with_confirm (Next m) n = Next m
with_confirm (Key m) n = Key m
with_confirm (Confirming goal which m) n = Confirming goal which n
with_confirm (Help m) n = Help m
with_confirm (Row m) n = Row m
with_confirm (Words m) n = Words m
with_confirm (RowValue m) n = RowValue m
with_confirm (Link m) n = Link m
with_confirm (Mark m) n = Mark m
with_confirm (Tidy m) n = Tidy m
with_confirm (Value m) n = Value m
with_confirm (Ends m) n = Ends m
with_confirm (Rests hand) n = Rests hand

abbrev pub with_exchange : At → HeldExchange → At
with_exchange (Head m) n = Head m
with_exchange (Next m) n = Next m
with_exchange (Key m) n = Key m
with_exchange (Confirming goal which m) n = Confirming goal which m
with_exchange (Help m) n = Help n
with_exchange (Row m) n = Row m
with_exchange (Words m) n = Words m
with_exchange (RowValue m) n = RowValue m
with_exchange (Link m) n = Link n
with_exchange (Mark m) n = Mark n
with_exchange (Tidy m) n = Tidy n
with_exchange (Value m) n = Value m
with_exchange (Ends m) n = Ends m
with_exchange (Rests hand) n = Rests hand

abbrev pub with_store : At → HeldStore → At
with_store (Head m) n = Head m
with_store (Next m) n = Next m
with_store (Key m) n = Key m
with_store (Confirming goal which m) n = Confirming goal which m
with_store (Help m) n = Help m
with_store (Row m) n = Row m
with_store (Words m) n = Words n
with_store (RowValue m) n = RowValue n
with_store (Link m) n = Link m
with_store (Mark m) n = Mark m
with_store (Tidy m) n = Tidy m
with_store (Value m) n = Value m
with_store (Ends m) n = Ends m
with_store (Rests hand) n = Rests hand

abbrev pub with_complete : At → HeldComplete → At
with_complete (Head m) n = Head m
with_complete (Next m) n = Next m
with_complete (Key m) n = Key m
with_complete (Confirming goal which m) n = Confirming goal which m
with_complete (Help m) n = Help m
with_complete (Row m) n = Row m
with_complete (Words m) n = Words m
with_complete (RowValue m) n = RowValue m
with_complete (Link m) n = Link m
with_complete (Mark m) n = Mark m
with_complete (Tidy m) n = Tidy m
with_complete (Value m) n = Value m
with_complete (Ends m) n = Ends n
with_complete (Rests hand) n = Rests hand

abbrev pub with_take : At → HeldTake → At
with_take (Head m) n = Head m
with_take (Next m) n = Next m
with_take (Key m) n = Key m
with_take (Confirming goal which m) n = Confirming goal which m
with_take (Help m) n = Help m
with_take (Row m) n = Row n
with_take (Words m) n = Words m
with_take (RowValue m) n = RowValue m
with_take (Link m) n = Link m
with_take (Mark m) n = Mark m
with_take (Tidy m) n = Tidy m
with_take (Value m) n = Value m
with_take (Ends m) n = Ends m
with_take (Rests hand) n = Rests hand

abbrev pub with_working : At → Working → At
with_working at (Idles hand) = at
with_working at (Loads n) = at
with_working at (VLoads n) = with_v_load at n
with_working at (Confirms n) = with_confirm at n
with_working at (Exchanges n) = with_exchange at n
with_working at (VExchanges n) = at
with_working at (Stores n) = with_store at n
with_working at (Fences n) = at
with_working at (Completes n) = with_complete at n
with_working at (Evicts n) = at

abbrev pub with_machine_at : At → Machine → At
with_machine_at at (Works w) = with_working at w
with_machine_at at (Takes n) = with_take at n

abbrev pub with_machine : HeldOp → Machine → HeldOp
with_machine op m = record op { at = with_machine_at op.at m }

-- ---- the call where its machine has ended

abbrev pub resumed_at : Layout → Place → List ℕ → Carried → At → HeldOp
resumed_at l p free op (Head m) = head_next l p free op m
resumed_at l p free op (Next m) = next_next l p free op m
resumed_at l p free op (Key m) = key_next l p free op m
resumed_at l p free op (Confirming goal which m) = confirming_next l p free op goal which m
resumed_at l p free op (Help m) = help_next l p free op m
resumed_at l p free op (Row m) = row_next l op m
resumed_at l p free op (Words m) = words_next l op m
resumed_at l p free op (RowValue m) = row_value_next l op m
resumed_at l p free op (Link m) = link_next l op m
resumed_at l p free op (Mark m) = mark_next l op m
resumed_at l p free op (Tidy m) = tidy_next op m
resumed_at l p free op (Value m) = value_next op m
resumed_at l p free op (Ends m) = stands op (Ends m)
resumed_at l p free op (Rests hand) = stands op (Rests hand)

abbrev pub resumed : Layout → Place → List ℕ → HeldOp → Machine → HeldOp
resumed l p free op m = resumed_at l p free (carried op) (with_machine_at op.at m)

-- ---- its update

-- the link to an insert's row, and the mark of the row that a remove has found
abbrev pub effects_at : At → Bool
effects_at (Head m) = false
effects_at (Next m) = false
effects_at (Key m) = false
effects_at (Confirming goal which m) = false
effects_at (Help m) = false
effects_at (Row m) = false
effects_at (Words m) = false
effects_at (RowValue m) = false
effects_at (Link m) = true
effects_at (Mark m) = true
effects_at (Tidy m) = false
effects_at (Value m) = false
effects_at (Ends m) = false
effects_at (Rests hand) = false

-- behind it are the unlinking of the row that the call has marked, and the end with the reply of an update
abbrev pub past_at : Call → Reply → At → Bool
past_at call reply (Head m) = false
past_at call reply (Next m) = false
past_at call reply (Key m) = false
past_at call reply (Confirming goal which m) = false
past_at call reply (Help m) = false
past_at call reply (Row m) = false
past_at call reply (Words m) = false
past_at call reply (RowValue m) = false
past_at call reply (Link m) = false
past_at call reply (Mark m) = false
past_at call reply (Tidy m) = true
past_at call reply (Value m) = false
past_at call reply (Ends m) = is_update_by call reply
past_at call reply (Rests hand) = false

-- what its store fills: its row's key and link, or the row's value
abbrev pub storing_at : Layout → Call → Path → At → Filling
storing_at l call path (Head m) = record { first = 0; values = [] }
storing_at l call path (Next m) = record { first = 0; values = [] }
storing_at l call path (Key m) = record { first = 0; values = [] }
storing_at l call path (Confirming goal which m) = record { first = 0; values = [] }
storing_at l call path (Help m) = record { first = 0; values = [] }
storing_at l call path (Row m) = record { first = 0; values = [] }
storing_at l call path (Words m) = record { first = key_word l (own_row m.hand); values = key_of call ∷ to_row (row_at path) ∷ [] }
storing_at l call path (RowValue m) = record { first = value_word_of l (own_row m.hand); values = value_put call ∷ [] }
storing_at l call path (Link m) = record { first = 0; values = [] }
storing_at l call path (Mark m) = record { first = 0; values = [] }
storing_at l call path (Tidy m) = record { first = 0; values = [] }
storing_at l call path (Value m) = record { first = 0; values = [] }
storing_at l call path (Ends m) = record { first = 0; values = [] }
storing_at l call path (Rests hand) = record { first = 0; values = [] }

abbrev pub list_anatomy : Layout → Place → List ℕ → Anatomy HeldOp
list_anatomy l p free = record {
  call = λ op. op.call;
  reply = λ op. op.reply;
  machine = λ op. machine_at op.at;
  with_machine = λ op m. with_machine op m;
  begun = λ hand call. op_begun l hand call;
  resumed = λ op m. resumed l p free op m;
  effects = λ op. effects_at op.at;
  past = λ op. past_at op.call op.reply op.at;
  storing = λ op. storing_at l op.call op.path op.at;
}
