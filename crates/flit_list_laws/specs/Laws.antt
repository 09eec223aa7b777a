-- What a list or a hash table is to the crew.
use Rattle.std.specs.Prelude.{◌≡◌, ℕ, ◌<◌, List}
use Rattle.flit_words.specs.declared.layouts.Layout.{Layout}
use Rattle.flit_words.specs.Layouts.{words_of}
use Rattle.flit_place.specs.Tags.{Place, IsSlot}
use Rattle.flit_structure.specs.Moments.{Opening}
use Rattle.flit_structure.specs.Lawful.{IsOpening}
use Rattle.flit_crew.specs.Obligations.{Keeps, OpensSo}
use Rattle.flit_list_laws.specs.ListCrew.{IsOfLists, list_crew}

-- over each layout of a list or a hash table, with each placement and each pool, it meets what the crew asks; and each
-- lawful opening with slots of the layout is one that the crew may start from
pub record ListsKeep : Type 0 where
  pub keeps : (l : Layout) (p : Place) (free : List ℕ) → IsOfLists l → Keeps (list_crew l p free) l p free
  pub opens : (l : Layout) (p : Place) (free : List ℕ) (o : Opening) → IsOfLists l → free ≡ o.free → IsOpening l o →
      ((word : ℕ) → word < words_of l → IsSlot p.counted l.slots (p.slot word)) → OpensSo (list_crew l p free) l p free o
