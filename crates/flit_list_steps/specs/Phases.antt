-- A call's phase with the call's one hand, as one of the machines that have a hand each.
use Rattle.std.specs.Prelude.{◌≡◌, refl, Bool, true, false, if◌then◌else◌}
use Rattle.flit_pv.specs.declared.hands.Hand.{Hand}
use Rattle.flit_pv.specs.declared.stores.PrivateStore.{PrivateStore}
use Rattle.flit_pv.specs.VLoads.{v_load_of}
use Rattle.flit_words.specs.Words.{is_tagged}
use Rattle.flit_pv.specs.Hands.{with_queued, with_omitted}
use Rattle.flit_pv.specs.declared.confirms.Confirming.{Confirming as Confirming_phase}
use Rattle.flit_pv.specs.declared.confirms.Confirming.TheVariants.{Begins, MakesRoom, Done}
use Rattle.flit_pv.specs.Confirms.{HeldConfirm, confirm_of, confirm_leaves, confirm_left}
use Rattle.flit_pv.specs.Stores.{store_of}
use Rattle.flit_pv.specs.Exchanges.{exchange_of}
use Rattle.flit_pv.specs.Fences.{complete_of}
use Rattle.flit_rows.specs.Taking.{take_of}
use Rattle.flit_list_steps.specs.declared.operations.Phase.{Phase}
use Rattle.flit_list_steps.specs.declared.operations.Phase.TheVariants.{Head as In_head, Next as In_next, Key as In_key, Confirming as In_confirming, Help as In_help, Row as In_row, Words as In_words, RowValue as In_row_value, Link as In_link, Mark as In_mark, Tidy as In_tidy, Value as In_value, Ends as In_ends, Rests as In_rests}
use Rattle.flit_list_steps.specs.Operations.{At, Head, Next, Key, Confirming, Help, Row, Words, RowValue, Link, Mark, Tidy, Value, Ends, Rests}
use Rattle.flit_list_steps.specs.Steps.{hand_at, FitsLink}

abbrev pub at_of : Hand → PrivateStore → Phase → At
at_of hand store (In_head m) = Head (v_load_of hand m)
at_of hand store (In_next m) = Next (v_load_of hand m)
at_of hand store (In_key m) = Key (v_load_of hand m)
at_of hand store (In_confirming goal which m) = Confirming goal which (confirm_of hand m)
at_of hand store (In_help m) = Help (exchange_of hand m)
at_of hand store (In_row m) = Row (take_of hand m)
at_of hand store In_words = Words (store_of hand store)
at_of hand store In_row_value = RowValue (store_of hand store)
at_of hand store (In_link m) = Link (exchange_of hand m)
at_of hand store (In_mark m) = Mark (exchange_of hand m)
at_of hand store (In_tidy m) = Tidy (exchange_of hand m)
at_of hand store (In_value m) = Value (v_load_of hand m)
at_of hand store In_ends = Ends (complete_of hand)
at_of hand store In_rests = Rests hand

-- the hand is that of each machine
pub same_hand : (hand : Hand) (store : PrivateStore) (at : Phase) → hand_at (at_of hand store at) ≡ hand
same_hand hand store (In_head m) = refl
same_hand hand store (In_next m) = refl
same_hand hand store (In_key m) = refl
same_hand hand store (In_confirming goal which m) = refl
same_hand hand store (In_help m) = refl
same_hand hand store (In_row m) = refl
same_hand hand store In_words = refl
same_hand hand store In_row_value = refl
same_hand hand store (In_link m) = refl
same_hand hand store (In_mark m) = refl
same_hand hand store (In_tidy m) = refl
same_hand hand store (In_value m) = refl
same_hand hand store In_ends = refl
same_hand hand store In_rests = refl

-- a confirmation leaves name and rows of the hand as they are
pub left_fits : (m : HeldConfirm) → FitsLink m.hand → FitsLink (confirm_left m)
left_fits m h = by_phase m.at
  where
    by_tag : (b : Bool) → FitsLink (if b then with_queued m.hand m.word m.raw else with_omitted m.hand)
    by_tag true = record { name = h.name; row = h.row }
    by_tag false = record { name = h.name; row = h.row }

    by_phase : (at : Confirming_phase) → FitsLink (confirm_leaves at m)
    by_phase Begins = by_tag (is_tagged m.raw)
    by_phase (MakesRoom first) = h
    by_phase Done = h
