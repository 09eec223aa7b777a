-- A call of the tree, as the crew looks at it: the machine that it is in, how it goes on where that has ended, and which
-- exchange is its update.
use Rattle.std.specs.Prelude.{ℕ, Bool, true, false, List, [], ◌∷◌}
use Rattle.flit_words.specs.declared.layouts.Layout.{Layout}
use Rattle.flit_words.specs.Layouts.{value_word_of}
use Rattle.flit_model.specs.Histories.{is_update_by}
use Rattle.flit_model.specs.declared.calls.Call.{Call}
use Rattle.flit_model.specs.declared.calls.Reply.{Reply}
use Rattle.flit_place.specs.Tags.{Place}
use Rattle.flit_pv.specs.Loads.{HeldLoad}
use Rattle.flit_pv.specs.VLoads.{HeldVLoad}
use Rattle.flit_pv.specs.Exchanges.{HeldExchange}
use Rattle.flit_pv.specs.Stores.{HeldStore}
use Rattle.flit_pv.specs.Fences.{HeldComplete}
use Rattle.flit_rows.specs.Taking.{HeldTake}
use Rattle.flit_runs.specs.Workings.{Working, Idles, Loads, VLoads, Confirms, Exchanges, VExchanges, Stores, Fences, Completes, Evicts}
use Rattle.flit_structure.specs.Meanings.{key_of, value_put}
use Rattle.flit_crew.specs.Machines.{Machine, Works, Takes}
use Rattle.flit_crew.specs.Fillings.{Filling}
use Rattle.flit_crew.specs.Anatomies.{Anatomy}
use Rattle.flit_tree_steps.specs.declared.operations.Path.{Path}
use Rattle.flit_tree_steps.specs.declared.operations.CleanUp.{CleanUp}
use Rattle.flit_tree_steps.specs.declared.operations.CleanUp.TheVariants.{Own, Help}
use Rattle.flit_tree_steps.specs.Operations.{At, Root, Key, Edge, Rows, LeafWords, LeafValue, InnerWords, Link, Flag, Sibling, Freeze, Swing, Value, Ends, Rests, HeldOp}
use Rattle.flit_tree_steps.specs.Steps.{Carried, carried, stands, key_word, leaf_row, inner_row, row_at, inner_words, op_begun, root_next, key_next, edge_next, rows_next, leaf_next, leaf_value_next, inner_next, link_next, flag_next, sibling_next, freeze_next, swing_next, value_next}

abbrev pub machine_at : At → Machine
machine_at (Root m) = Works (Loads m)
machine_at (Key m) = Works (Loads m)
machine_at (Edge m) = Works (Loads m)
machine_at (Rows m) = Takes m
machine_at (LeafWords m) = Works (Stores m)
machine_at (LeafValue m) = Works (Stores m)
machine_at (InnerWords m) = Works (Stores m)
machine_at (Link m) = Works (Exchanges m)
machine_at (Flag m) = Works (Exchanges m)
machine_at (Sibling c m) = Works (Loads m)
machine_at (Freeze c m) = Works (Exchanges m)
machine_at (Swing c m) = Works (Exchanges m)
machine_at (Value m) = Works (VLoads m)
machine_at (Ends m) = Works (Completes m)
machine_at (Rests hand) = Works (Idles hand)

-- ---- the phase with another machine of its kind

abbrev pub with_load : At → HeldLoad → At
with_load (Root m) n = Root n
with_load (Key m) n = Key n
with_load (Edge m) n = Edge n
with_load (Rows m) n = Rows m
with_load (LeafWords m) n = LeafWords m
with_load (LeafValue m) n = LeafValue m
with_load (InnerWords m) n = InnerWords m
with_load (Link m) n = Link m
with_load (Flag m) n = Flag m
with_load (Sibling c m) n = Sibling c n
with_load (Freeze c m) n = Freeze c m
with_load (Swing c m) n = Swing c m
with_load (Value m) n = Value m
with_load (Ends m) n = Ends m
with_load (Rests hand) n = Rests hand

abbrev pub with_v_load : At → HeldVLoad → At
with_v_load (Root m) n = Root m
with_v_load (Key m) n = Key m
with_v_load (Edge m) n = Edge m
with_v_load (Rows m) n = Rows m
with_v_load (LeafWords m) n = LeafWords m
with_v_load (LeafValue m) n = LeafValue m
with_v_load (InnerWords m) n = InnerWords m
with_v_load (Link m) n = Link m
with_v_load (Flag m) n = Flag m
with_v_load (Sibling c m) n = Sibling c m
with_v_load (Freeze c m) n = Freeze c m
with_v_load (Swing c m) n = Swing c m
with_v_load (Value m) n = Value n
with_v_load (Ends m) n = Ends m
with_v_load (Rests hand) n = Rests hand

abbrev pub with_exchange : At → HeldExchange → At
with_exchange (Root m) n = Root m
with_exchange (Key m) n = Key m
with_exchange (Edge m) n = Edge m
with_exchange (Rows m) n = Rows m
with_exchange (LeafWords m) n = LeafWords m
with_exchange (LeafValue m) n = LeafValue m
with_exchange (InnerWords m) n = InnerWords m
with_exchange (Link m) n = Link n
with_exchange (Flag m) n = Flag n
with_exchange (Sibling c m) n = Sibling c m
with_exchange (Freeze c m) n = Freeze c n
with_exchange (Swing c m) n = Swing c n
with_exchange (Value m) n = Value m
with_exchange (Ends m) n = Ends m
with_exchange (Rests hand) n = Rests hand

abbrev pub with_store : At → HeldStore → At
with_store (Root m) n = Root m
with_store (Key m) n = Key m
with_store (Edge m) n = Edge m
with_store (Rows m) n = Rows m
with_store (LeafWords m) n = LeafWords n
with_store (LeafValue m) n = LeafValue n
with_store (InnerWords m) n = InnerWords n
with_store (Link m) n = Link m
with_store (Flag m) n = Flag m
with_store (Sibling c m) n = Sibling c m
with_store (Freeze c m) n = Freeze c m
with_store (Swing c m) n = Swing c m
with_store (Value m) n = Value m
with_store (Ends m) n = Ends m
with_store (Rests hand) n = Rests hand

abbrev pub with_complete : At → HeldComplete → At
with_complete (Root m) n = Root m
with_complete (Key m) n = Key m
with_complete (Edge m) n = Edge m
with_complete (Rows m) n = Rows m
with_complete (LeafWords m) n = LeafWords m
with_complete (LeafValue m) n = LeafValue m
with_complete (InnerWords m) n = InnerWords m
with_complete (Link m) n = Link m
with_complete (Flag m) n = Flag m
with_complete (Sibling c m) n = Sibling c m
with_complete (Freeze c m) n = Freeze c m
with_complete (Swing c m) n = Swing c m
with_complete (Value m) n = Value m
with_complete (Ends m) n = Ends n
with_complete (Rests hand) n = Rests hand

abbrev pub with_take : At → HeldTake → At
with_take (Root m) n = Root m
with_take (Key m) n = Key m
with_take (Edge m) n = Edge m
with_take (Rows m) n = Rows n
with_take (LeafWords m) n = LeafWords m
with_take (LeafValue m) n = LeafValue m
with_take (InnerWords m) n = InnerWords m
with_take (Link m) n = Link m
with_take (Flag m) n = Flag m
with_take (Sibling c m) n = Sibling c m
with_take (Freeze c m) n = Freeze c m
with_take (Swing c m) n = Swing c m
with_take (Value m) n = Value m
with_take (Ends m) n = Ends m
with_take (Rests hand) n = Rests hand

abbrev pub with_working : At → Working → At
with_working at (Idles hand) = at
with_working at (Loads n) = with_load at n
with_working at (VLoads n) = with_v_load at n
with_working at (Confirms n) = at
with_working at (Exchanges n) = with_exchange at n
with_working at (VExchanges n) = at
with_working at (Stores n) = with_store at n
with_working at (Fences n) = at
with_working at (Completes n) = with_complete at n
with_working at (Evicts n) = at

abbrev pub with_machine_at : At → Machine → At
with_machine_at at (Works w) = with_working at w
with_machine_at at (Takes n) = with_take at n

abbrev pub with_machine : HeldOp → Machine → HeldOp
with_machine op m = record op { at = with_machine_at op.at m }

-- ---- the call where its machine has ended

abbrev pub resumed_at : Layout → List ℕ → Carried → At → HeldOp
resumed_at l free op (Root m) = root_next l op m
resumed_at l free op (Key m) = key_next l op m
resumed_at l free op (Edge m) = edge_next l free op m
resumed_at l free op (Rows m) = rows_next l op m
resumed_at l free op (LeafWords m) = leaf_next l op m
resumed_at l free op (LeafValue m) = leaf_value_next l op m
resumed_at l free op (InnerWords m) = inner_next l op m
resumed_at l free op (Link m) = link_next op m
resumed_at l free op (Flag m) = flag_next l op m
resumed_at l free op (Sibling c m) = sibling_next l c op m
resumed_at l free op (Freeze c m) = freeze_next l c op m
resumed_at l free op (Swing c m) = swing_next c op m
resumed_at l free op (Value m) = value_next op m
resumed_at l free op (Ends m) = stands op (Ends m)
resumed_at l free op (Rests hand) = stands op (Rests hand)

abbrev pub resumed : Layout → List ℕ → HeldOp → Machine → HeldOp
resumed l free op m = resumed_at l free (carried op) (with_machine_at op.at m)

-- ---- its update

-- the link to an insert's rows, and the flag on the edge to the leaf that a remove has found
abbrev pub effects_at : At → Bool
effects_at (Root m) = false
effects_at (Key m) = false
effects_at (Edge m) = false
effects_at (Rows m) = false
effects_at (LeafWords m) = false
effects_at (LeafValue m) = false
effects_at (InnerWords m) = false
effects_at (Link m) = true
effects_at (Flag m) = true
effects_at (Sibling c m) = false
effects_at (Freeze c m) = false
effects_at (Swing c m) = false
effects_at (Value m) = false
effects_at (Ends m) = false
effects_at (Rests hand) = false

-- behind it are the clean-up of the call's own removal, and the end with the reply of an update
abbrev pub is_own : CleanUp → Bool
is_own Own = true
is_own Help = false

abbrev pub past_at : Call → Reply → At → Bool
past_at call reply (Root m) = false
past_at call reply (Key m) = false
past_at call reply (Edge m) = false
past_at call reply (Rows m) = false
past_at call reply (LeafWords m) = false
past_at call reply (LeafValue m) = false
past_at call reply (InnerWords m) = false
past_at call reply (Link m) = false
past_at call reply (Flag m) = false
past_at call reply (Sibling c m) = is_own c
past_at call reply (Freeze c m) = is_own c
past_at call reply (Swing c m) = is_own c
past_at call reply (Value m) = false
past_at call reply (Ends m) = is_update_by call reply
past_at call reply (Rests hand) = false

-- what its store fills: the new leaf's key and edges, its value, or the new inner row's key and edges
abbrev pub storing_at : Layout → Call → Path → At → Filling
storing_at l call path (Root m) = record { first = 0; values = [] }
storing_at l call path (Key m) = record { first = 0; values = [] }
storing_at l call path (Edge m) = record { first = 0; values = [] }
storing_at l call path (Rows m) = record { first = 0; values = [] }
storing_at l call path (LeafWords m) = record { first = key_word l (leaf_row m.hand); values = key_of call ∷ 0 ∷ 0 ∷ [] }
storing_at l call path (LeafValue m) = record { first = value_word_of l (leaf_row m.hand); values = value_put call ∷ [] }
storing_at l call path (InnerWords m) = record {
  first = key_word l (inner_row m.hand);
  values = inner_words (key_of call) path.key (leaf_row m.hand) (row_at path);
}
storing_at l call path (Link m) = record { first = 0; values = [] }
storing_at l call path (Flag m) = record { first = 0; values = [] }
storing_at l call path (Sibling c m) = record { first = 0; values = [] }
storing_at l call path (Freeze c m) = record { first = 0; values = [] }
storing_at l call path (Swing c m) = record { first = 0; values = [] }
storing_at l call path (Value m) = record { first = 0; values = [] }
storing_at l call path (Ends m) = record { first = 0; values = [] }
storing_at l call path (Rests hand) = record { first = 0; values = [] }

abbrev pub tree_anatomy : Layout → Place → List ℕ → Anatomy HeldOp
tree_anatomy l p free = record {
  call = λ op. op.call;
  reply = λ op. op.reply;
  machine = λ op. machine_at op.at;
  with_machine = λ op m. with_machine op m;
  begun = λ hand call. op_begun hand call;
  resumed = λ op m. resumed l free op m;
  effects = λ op. effects_at op.at;
  past = λ op. past_at op.call op.reply op.at;
  storing = λ op. storing_at l op.call op.path op.at;
}
