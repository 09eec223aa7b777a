-- What the tree is to the crew.
use Rattle.std.specs.Prelude.{◌≡◌, ℕ, ◌<◌, List}
use Rattle.flit_words.specs.declared.layouts.Layout.{Layout}
use Rattle.flit_words.specs.Layouts.{words_of}
use Rattle.flit_place.specs.Tags.{Place, IsSlot}
use Rattle.flit_structure.specs.Moments.{Opening}
use Rattle.flit_structure.specs.Lawful.{IsOpening}
use Rattle.flit_crew.specs.Obligations.{Keeps, OpensSo}
use Rattle.flit_tree_heap.specs.Views.{IsTreeLayout}
use Rattle.flit_tree_laws.specs.TreeCrew.{tree_crew}

-- over each layout of a tree, with each placement and each pool, it meets what the crew asks; and each lawful opening with
-- slots of the layout is one that the crew may start from
pub record TreesKeep : Type 0 where
  pub keeps : (l : Layout) (p : Place) (free : List ℕ) → IsTreeLayout l → Keeps (tree_crew l p free) l p free
  pub opens : (l : Layout) (p : Place) (free : List ℕ) (o : Opening) → IsTreeLayout l → free ≡ o.free → IsOpening l o →
      ((word : ℕ) → word < words_of l → IsSlot p.counted l.slots (p.slot word)) → OpensSo (tree_crew l p free) l p free o
