-- A call of a map of at most one key, as the crew looks at it: the machine that it is in, how it goes on where that has
-- ended, and which exchange is its update.
use Rattle.std.specs.Prelude.{ℕ, Bool, true, false, List, [], ◌∷◌}
use Rattle.flit_words.specs.declared.layouts.Layout.{Layout}
use Rattle.flit_model.specs.Histories.{is_update_by}
use Rattle.flit_model.specs.declared.calls.Call.{Call}
use Rattle.flit_model.specs.declared.calls.Reply.{Reply}
use Rattle.flit_pv.specs.VLoads.{HeldVLoad}
use Rattle.flit_pv.specs.Stores.{HeldStore}
use Rattle.flit_rows.specs.Taking.{HeldTake}
use Rattle.flit_runs.specs.Workings.{Working, Idles, Loads, VLoads, Confirms, Exchanges, VExchanges, Stores, Fences, Completes, Evicts}
use Rattle.flit_crew.specs.Machines.{Machine, Works, Takes}
use Rattle.flit_crew.specs.Fillings.{Filling}
use Rattle.flit_crew.specs.Anatomies.{Anatomy}
use Rattle.flit_one_key.specs.Operations.{At, Head, Key, Value, Row, Words, RowValue, Link, Ends, Rests, HeldOp}
use Rattle.flit_structure.specs.Meanings.{key_of, value_put}
use Rattle.flit_one_key.specs.Steps.{key_word, value_word, op_begun, head_next, key_next, value_next, row_next, words_next, row_value_next, link_next}

abbrev pub machine_at : At → Machine
machine_at (Head m) = Works (Loads m)
machine_at (Key head m) = Works (VLoads m)
machine_at (Value m) = Works (VLoads m)
machine_at (Row head m) = Takes m
machine_at (Words head m) = Works (Stores m)
machine_at (RowValue head m) = Works (Stores m)
machine_at (Link m) = Works (Exchanges m)
machine_at (Ends m) = Works (Completes m)
machine_at (Rests hand) = Works (Idles hand)

-- ---- the phase with another machine of its kind

abbrev pub with_v_load : At → HeldVLoad → At
with_v_load (Head m) n = Head m
with_v_load (Key head m) n = Key head n
with_v_load (Value m) n = Value n
with_v_load (Row head m) n = Row head m
with_v_load (Words head m) n = Words head m
with_v_load (RowValue head m) n = RowValue head m
with_v_load (Link m) n = Link m
with_v_load (Ends m) n = Ends m
with_v_load (Rests hand) n = Rests hand

abbrev pub with_store : At → HeldStore → At
with_store (Head m) n = Head m
with_store (Key head m) n = Key head m
with_store (Value m) n = Value m
with_store (Row head m) n = Row head m
with_store (Words head m) n = Words head n
with_store (RowValue head m) n = RowValue head n
with_store (Link m) n = Link m
with_store (Ends m) n = Ends m
with_store (Rests hand) n = Rests hand

abbrev pub with_take : At → HeldTake → At
with_take (Head m) n = Head m
with_take (Key head m) n = Key head m
with_take (Value m) n = Value m
with_take (Row head m) n = Row head n
with_take (Words head m) n = Words head m
with_take (RowValue head m) n = RowValue head m
with_take (Link m) n = Link m
with_take (Ends m) n = Ends m
with_take (Rests hand) n = Rests hand

abbrev pub with_working : At → Working → At
with_working at (Idles hand) = Rests hand
with_working at (Loads m) = Head m
with_working at (VLoads m) = with_v_load at m
with_working at (Confirms m) = at
with_working at (Exchanges m) = Link m
with_working at (VExchanges m) = at
with_working at (Stores m) = with_store at m
with_working at (Fences m) = at
with_working at (Completes m) = Ends m
with_working at (Evicts m) = at

abbrev pub with_machine_at : At → Machine → At
with_machine_at at (Works w) = with_working at w
with_machine_at at (Takes m) = with_take at m

abbrev pub with_machine : HeldOp → Machine → HeldOp
with_machine op m = record op { at = with_machine_at op.at m }

-- ---- the call where its machine has ended

abbrev pub resumed_at : Layout → List ℕ → HeldOp → At → HeldOp
resumed_at l free op (Head m) = head_next l free op m
resumed_at l free op (Key head m) = key_next l free op head m
resumed_at l free op (Value m) = value_next op m
resumed_at l free op (Row head m) = row_next l op head m
resumed_at l free op (Words head m) = words_next l op head m
resumed_at l free op (RowValue head m) = row_value_next l op head m
resumed_at l free op (Link m) = link_next op m
resumed_at l free op (Ends m) = op
resumed_at l free op (Rests hand) = op

abbrev pub resumed_so : Layout → List ℕ → HeldOp → HeldOp
resumed_so l free op = resumed_at l free op op.at

abbrev pub resumed : Layout → List ℕ → HeldOp → Machine → HeldOp
resumed l free op m = resumed_so l free (with_machine op m)

-- ---- its update

-- the exchange of the head is the update of its call
abbrev pub effects_at : At → Bool
effects_at (Head m) = false
effects_at (Key head m) = false
effects_at (Value m) = false
effects_at (Row head m) = false
effects_at (Words head m) = false
effects_at (RowValue head m) = false
effects_at (Link m) = true
effects_at (Ends m) = false
effects_at (Rests hand) = false

-- a call that ends with the reply of an update has made it
abbrev pub past_at : Call → Reply → At → Bool
past_at call reply (Head m) = false
past_at call reply (Key head m) = false
past_at call reply (Value m) = false
past_at call reply (Row head m) = false
past_at call reply (Words head m) = false
past_at call reply (RowValue head m) = false
past_at call reply (Link m) = false
past_at call reply (Ends m) = is_update_by call reply
past_at call reply (Rests hand) = false

-- what its store fills: the row's key and its link, or its value
abbrev pub storing_at : Layout → Call → At → Filling
storing_at l call (Head m) = record { first = 0; values = [] }
storing_at l call (Key head m) = record { first = 0; values = [] }
storing_at l call (Value m) = record { first = 0; values = [] }
storing_at l call (Row head m) = record { first = 0; values = [] }
storing_at l call (Words head m) = record { first = key_word l; values = key_of call ∷ 0 ∷ [] }
storing_at l call (RowValue head m) = record { first = value_word l; values = value_put call ∷ [] }
storing_at l call (Link m) = record { first = 0; values = [] }
storing_at l call (Ends m) = record { first = 0; values = [] }
storing_at l call (Rests hand) = record { first = 0; values = [] }

abbrev pub one_key_anatomy : Layout → List ℕ → Anatomy HeldOp
one_key_anatomy l free = record {
  call = λ op. op.call;
  reply = λ op. op.reply;
  machine = λ op. machine_at op.at;
  with_machine = λ op m. with_machine op m;
  begun = λ hand call. op_begun hand call;
  resumed = λ op m. resumed l free op m;
  effects = λ op. effects_at op.at;
  past = λ op. past_at op.call op.reply op.at;
  storing = λ op. storing_at l op.call op.at;
}
