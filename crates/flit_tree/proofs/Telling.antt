-- Whatever an operation under way is told, its hand's rows fit into links where it may still store or link them.
use Rattle.std.proofs.Common.{◌≡◌, ℕ, ◌&&◌, true, false, refl}
use Rattle.flit_model.specs.declared.calls.Call.{Call}
use Rattle.flit_place.specs.Tags.{Place}
use Rattle.flit_structure.specs.Meanings.{MayTake}
use Rattle.flit_structure.specs.Lawful.{is_insert}
use Rattle.flit_crew.specs.Machines.{deed_of, has_linked}
use Rattle.flit_tree_steps.specs.Operations.{At, Root, Key, Edge, Rows, LeafWords, LeafValue, InnerWords, Link, Flag, Sibling, Freeze, Swing, Value, Ends, Rests, HeldOp}
use Rattle.flit_tree_steps.specs.Steps.{after_at, hand_at, FitsLink}
use Rattle.flit_tree_laws.specs.TreeAnatomy.{machine_at, effects_at}
use Rattle.flit_tree_meaning.proofs.Fitting.{hands_fit}
use Rattle.flit_tree.specs.declared.trees.Tree.{Tree}
use Rattle.flit_tree.specs.Trees.{tree_of, may_store_rows}

-- where it may still store its rows, no insert has linked them
unlinked : (call : Call) (at : At) → may_store_rows at ≡ true → (effects_at at && (is_insert call && has_linked (deed_of (machine_at at)))) ≡ false
unlinked call (Root m) e = absurd (cc)
unlinked call (Key m) e = absurd (cc)
unlinked call (Edge m) e = refl
unlinked call (Rows m) e = refl
unlinked call (LeafWords m) e = refl
unlinked call (LeafValue m) e = refl
unlinked call (InnerWords m) e = refl
unlinked call (Link m) e = absurd (cc)
unlinked call (Flag m) e = absurd (cc)
unlinked call (Sibling c m) e = absurd (cc)
unlinked call (Freeze c m) e = absurd (cc)
unlinked call (Swing c m) e = absurd (cc)
unlinked call (Value m) e = absurd (cc)
unlinked call (Ends m) e = absurd (cc)
unlinked call (Rests hand) e = absurd (cc)

module _ {P : Type 0} (place_of : P → Place) (s : Tree P) (op : HeldOp) (told : ℕ) (may : MayTake (tree_of place_of s) op told) where
  abbrev p : Place
  p = place_of s.place

  pub still_fits : may_store_rows op.at ≡ true → FitsLink (hand_at (after_at p s.pool op.at told))
  still_fits stores = (hands_fit s.layout p s.pool may.moment may.before may.name may.number op may.call may.begun may.behind told may.holds.0)
      (unlinked op.call op.at stores)
