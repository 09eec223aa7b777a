-- A call's phase with the call's one hand, as one of the machines that have a hand each.
use Rattle.std.specs.Prelude.{◌≡◌, refl}
use Rattle.flit_pv.specs.declared.hands.Hand.{Hand}
use Rattle.flit_pv.specs.declared.stores.PrivateStore.{PrivateStore}
use Rattle.flit_pv.specs.Loads.{load_of}
use Rattle.flit_pv.specs.VLoads.{v_load_of}
use Rattle.flit_pv.specs.Stores.{store_of}
use Rattle.flit_pv.specs.Exchanges.{exchange_of}
use Rattle.flit_pv.specs.Fences.{complete_of}
use Rattle.flit_rows.specs.Taking.{take_of}
use Rattle.flit_tree_steps.specs.declared.operations.Phase.{Phase}
use Rattle.flit_tree_steps.specs.declared.operations.Phase.TheVariants.{Root as In_root, Key as In_key, Edge as In_edge, Rows as In_rows, LeafWords as In_leaf_words, LeafValue as In_leaf_value, InnerWords as In_inner_words, Link as In_link, Flag as In_flag, Sibling as In_sibling, Freeze as In_freeze, Swing as In_swing, Value as In_value, Ends as In_ends, Rests as In_rests}
use Rattle.flit_tree_steps.specs.Operations.{At, Root, Key, Edge, Rows, LeafWords, LeafValue, InnerWords, Link, Flag, Sibling, Freeze, Swing, Value, Ends, Rests}
use Rattle.flit_tree_steps.specs.Steps.{hand_at}

abbrev pub at_of : Hand → PrivateStore → Phase → At
at_of hand store (In_root m) = Root (load_of hand m)
at_of hand store (In_key m) = Key (load_of hand m)
at_of hand store (In_edge m) = Edge (load_of hand m)
at_of hand store (In_rows m) = Rows (take_of hand m)
at_of hand store In_leaf_words = LeafWords (store_of hand store)
at_of hand store In_leaf_value = LeafValue (store_of hand store)
at_of hand store In_inner_words = InnerWords (store_of hand store)
at_of hand store (In_link m) = Link (exchange_of hand m)
at_of hand store (In_flag m) = Flag (exchange_of hand m)
at_of hand store (In_sibling clean_up m) = Sibling clean_up (load_of hand m)
at_of hand store (In_freeze clean_up m) = Freeze clean_up (exchange_of hand m)
at_of hand store (In_swing clean_up m) = Swing clean_up (exchange_of hand m)
at_of hand store (In_value m) = Value (v_load_of hand m)
at_of hand store In_ends = Ends (complete_of hand)
at_of hand store In_rests = Rests hand

-- the hand is that of each machine
pub same_hand : (hand : Hand) (store : PrivateStore) (at : Phase) → hand_at (at_of hand store at) ≡ hand
same_hand hand store (In_root m) = refl
same_hand hand store (In_key m) = refl
same_hand hand store (In_edge m) = refl
same_hand hand store (In_rows m) = refl
same_hand hand store In_leaf_words = refl
same_hand hand store In_leaf_value = refl
same_hand hand store In_inner_words = refl
same_hand hand store (In_link m) = refl
same_hand hand store (In_flag m) = refl
same_hand hand store (In_sibling clean_up m) = refl
same_hand hand store (In_freeze clean_up m) = refl
same_hand hand store (In_swing clean_up m) = refl
same_hand hand store (In_value m) = refl
same_hand hand store In_ends = refl
same_hand hand store In_rests = refl
