-- A call's phase with the call's one hand, as one of the machines that have a hand each.
use Rattle.std.specs.Prelude.{◌≡◌, refl}
use Rattle.flit_pv.specs.declared.hands.Hand.{Hand}
use Rattle.flit_pv.specs.declared.stores.PrivateStore.{PrivateStore}
use Rattle.flit_pv.specs.Loads.{load_of}
use Rattle.flit_pv.specs.VLoads.{v_load_of}
use Rattle.flit_pv.specs.Stores.{store_of}
use Rattle.flit_pv.specs.Exchanges.{exchange_of}
use Rattle.flit_pv.specs.Fences.{complete_of}
use Rattle.flit_rows.specs.Taking.{take_of}
use Rattle.flit_one_key.specs.declared.operations.Phase.{Phase}
use Rattle.flit_one_key.specs.declared.operations.Phase.TheVariants.{Head as In_head, Key as In_key, Value as In_value, Row as In_row, Words as In_words, RowValue as In_row_value, Link as In_link, Ends as In_ends, Rests as In_rests}
use Rattle.flit_one_key.specs.Operations.{At, Head, Key, Value, Row, Words, RowValue, Link, Ends, Rests}
use Rattle.flit_one_key.specs.Steps.{hand_at}

abbrev pub at_of : Hand → PrivateStore → Phase → At
at_of hand store (In_head m) = Head (load_of hand m)
at_of hand store (In_key head m) = Key head (v_load_of hand m)
at_of hand store (In_value m) = Value (v_load_of hand m)
at_of hand store (In_row head m) = Row head (take_of hand m)
at_of hand store (In_words head) = Words head (store_of hand store)
at_of hand store (In_row_value head) = RowValue head (store_of hand store)
at_of hand store (In_link m) = Link (exchange_of hand m)
at_of hand store In_ends = Ends (complete_of hand)
at_of hand store In_rests = Rests hand

-- the hand is that of each machine
pub same_hand : (hand : Hand) (store : PrivateStore) (at : Phase) → hand_at (at_of hand store at) ≡ hand
same_hand hand store (In_head m) = refl
same_hand hand store (In_key head m) = refl
same_hand hand store (In_value m) = refl
same_hand hand store (In_row head m) = refl
same_hand hand store (In_words head) = refl
same_hand hand store (In_row_value head) = refl
same_hand hand store (In_link m) = refl
same_hand hand store In_ends = refl
same_hand hand store In_rests = refl
