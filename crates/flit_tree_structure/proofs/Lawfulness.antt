-- All laws of a structure, of the tree: those of the crew, and those of its bounds.
use Rattle.std.specs.Prelude.{ℕ, List}
use Rattle.flit_words.specs.declared.layouts.Layout.{Layout}
use Rattle.flit_place.specs.Tags.{Place}
use Rattle.flit_structure.specs.Lawful.{Lawful, Wrappable}
use Rattle.flit_crew_bounds.proofs.CrewLaws.{bounded_lawful, bounded_wrappable}
use Rattle.flit_tree_heap.specs.Views.{IsTreeLayout}
use Rattle.flit_tree_laws.specs.TreeCrew.{tree_crew}
use Rattle.flit_tree_laws.proofs.Keeping.{trees_keep}
use Rattle.flit_tree_limits.specs.TreeLimits.{tree_limits}
use Rattle.flit_tree_limits.proofs.TreeCounts.{trees_count}
use Rattle.flit_tree_limits.proofs.Limiting.{trees_keep_limits}
use Rattle.flit_tree_structure.specs.TreeStructure.{trees}

module _ (l : Layout) (p : Place) (free : List ℕ) (layout : IsTreeLayout l) where
  pub tree_lawful : Lawful (trees l p free)
  tree_lawful = bounded_lawful (tree_crew l p free) l p free (tree_limits l p free) (trees_keep.keeps l p free layout) (trees_count l p free)
      (trees_keep_limits l p free) (λ o may. trees_keep.opens l p free o layout may.pool may.lawful may.slots)

  pub tree_wrappable : Wrappable (trees l p free)
  tree_wrappable = bounded_wrappable (tree_crew l p free) l p free (tree_limits l p free) (trees_keep.keeps l p free layout) (trees_count l p free)
      (trees_keep_limits l p free)
