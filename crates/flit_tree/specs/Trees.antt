-- The tree as a structure: what its calls mean, over its layout, its placement and its pool.
use Rattle.std.specs.Prelude.{Bool, true, false}
use Rattle.flit_place.specs.Tags.{Place}
use Rattle.flit_structure.specs.Meanings.{Meaning}
use Rattle.flit_structure.specs.Lawful.{Lawful, Wrappable}
use Rattle.flit_tree_steps.specs.Operations.{At, Root, Key, Edge, Rows, LeafWords, LeafValue, InnerWords, Link, Flag, Sibling, Freeze, Swing, Value, Ends, Rests, HeldOp}
use Rattle.flit_tree_structure.specs.TreeStructure.{trees}
use Rattle.flit_tree_structure.proofs.Lawfulness.{tree_lawful, tree_wrappable}
use Rattle.flit_tree.specs.declared.trees.Tree.{Tree}

abbrev pub tree_of : {P : Type 0} → (P → Place) → Tree P → Meaning HeldOp
tree_of place_of s = trees s.layout (place_of s.place) s.pool

pub tree_is_lawful : {P : Type 0} (place_of : P → Place) (s : Tree P) → Lawful (tree_of place_of s)
tree_is_lawful place_of s = tree_lawful s.layout (place_of s.place) s.pool s.edges

pub tree_is_wrappable : {P : Type 0} (place_of : P → Place) (s : Tree P) → Wrappable (tree_of place_of s)
tree_is_wrappable place_of s = tree_wrappable s.layout (place_of s.place) s.pool s.edges

-- from here on, with no search begun anew, a call may still store its hand's rows, or link them
abbrev pub may_store_rows : At → Bool
may_store_rows (Root m) = false
may_store_rows (Key m) = false
may_store_rows (Edge m) = true
may_store_rows (Rows m) = true
may_store_rows (LeafWords m) = true
may_store_rows (LeafValue m) = true
may_store_rows (InnerWords m) = true
may_store_rows (Link m) = false
may_store_rows (Flag m) = false
may_store_rows (Sibling clean_up m) = false
may_store_rows (Freeze clean_up m) = false
may_store_rows (Swing clean_up m) = false
may_store_rows (Value m) = false
may_store_rows (Ends m) = false
may_store_rows (Rests hand) = false
