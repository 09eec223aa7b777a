-- Whatever an operation under way is told, its hand fits into each link that it may still write.
use Rattle.std.proofs.Common.{◌≡◌, ℕ, ◌&&◌, true, false, refl}
use Rattle.flit_model.specs.declared.calls.Call.{Call}
use Rattle.flit_place.specs.Tags.{Place}
use Rattle.flit_structure.specs.Meanings.{MayTake}
use Rattle.flit_structure.specs.Lawful.{is_insert}
use Rattle.flit_crew.specs.Machines.{deed_of, has_linked}
use Rattle.flit_list_steps.specs.Operations.{At, Head, Next, Key, Confirming, Help, Row, Words, RowValue, Link, Mark, Tidy, Value, Ends, Rests, HeldOp}
use Rattle.flit_list_steps.specs.Steps.{after_at, hand_at, FitsLink}
use Rattle.flit_list_laws.specs.ListAnatomy.{machine_at, effects_at}
use Rattle.flit_list_meaning.proofs.Fitting.{hands_fit}
use Rattle.flit_list.specs.declared.lists.List.{List}
use Rattle.flit_list.specs.Lists.{list_of, may_write_link}

-- until its link is to be won, no insert has linked its row
unlinked : (call : Call) (at : At) → may_write_link at ≡ true → (effects_at at && (is_insert call && has_linked (deed_of (machine_at at)))) ≡ false
unlinked call (Head m) e = refl
unlinked call (Next m) e = refl
unlinked call (Key m) e = refl
unlinked call (Confirming goal which m) e = refl
unlinked call (Help m) e = refl
unlinked call (Row m) e = refl
unlinked call (Words m) e = refl
unlinked call (RowValue m) e = refl
unlinked call (Link m) e = absurd (cc)
unlinked call (Mark m) e = absurd (cc)
unlinked call (Tidy m) e = absurd (cc)
unlinked call (Value m) e = absurd (cc)
unlinked call (Ends m) e = absurd (cc)
unlinked call (Rests hand) e = absurd (cc)

module _ {P : Type 0} (place_of : P → Place) (s : List P) (op : HeldOp) (told : ℕ) (may : MayTake (list_of place_of s) op told) where
  abbrev p : Place
  p = place_of s.place

  pub still_fits : may_write_link op.at ≡ true → FitsLink (hand_at (after_at p s.pool op.at told))
  still_fits writes = (hands_fit s.layout p s.pool may.moment may.before may.name may.number op may.call may.begun may.behind told may.holds.0).fits
      (unlinked op.call op.at writes)
