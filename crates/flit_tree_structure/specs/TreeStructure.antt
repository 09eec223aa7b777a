-- The tree as a structure: where it may be opened, what its calls ask and do, its bounds, and what is true at each moment. It
-- has a layout, a placement and a pool of free rows.
use Rattle.std.specs.Prelude.{ℕ, List}
use Rattle.flit_words.specs.declared.layouts.Layout.{Layout}
use Rattle.flit_place.specs.Tags.{Place}
use Rattle.flit_structure.specs.Meanings.{Meaning}
use Rattle.flit_structure.specs.Lawful.{Lawful, Wrappable}
use Rattle.flit_crew_bounds.specs.BoundedMeanings.{bounded_meaning}
use Rattle.flit_tree_heap.specs.Views.{IsTreeLayout}
use Rattle.flit_tree_steps.specs.Operations.{HeldOp}
use Rattle.flit_tree_laws.specs.TreeCrew.{tree_crew}
use Rattle.flit_tree_limits.specs.TreeLimits.{tree_limits}

abbrev pub trees : Layout → Place → List ℕ → Meaning HeldOp
trees l p free = bounded_meaning (tree_crew l p free) l p free (tree_limits l p free)

-- Over each layout of a tree, with each placement and each pool, it keeps every law of a structure, and those that a
-- structure around it needs.
pub record TreesAreLawful : Type 0 where
  pub lawful : (l : Layout) (p : Place) (free : List ℕ) → IsTreeLayout l → Lawful (trees l p free)
  pub wrappable : (l : Layout) (p : Place) (free : List ℕ) → IsTreeLayout l → Wrappable (trees l p free)
