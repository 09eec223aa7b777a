-- A list or a hash table as a structure: where it may be opened, what its calls ask and do, its bounds, and what is true at
-- each moment. It has a layout, a placement and a pool of free rows.
use Rattle.std.specs.Prelude.{ℕ, List}
use Rattle.flit_words.specs.declared.layouts.Layout.{Layout}
use Rattle.flit_place.specs.Tags.{Place}
use Rattle.flit_structure.specs.Meanings.{Meaning}
use Rattle.flit_structure.specs.Lawful.{Lawful, Wrappable}
use Rattle.flit_crew_bounds.specs.BoundedMeanings.{bounded_meaning}
use Rattle.flit_list_steps.specs.Operations.{HeldOp}
use Rattle.flit_list_laws.specs.ListCrew.{IsOfLists, list_crew}
use Rattle.flit_list_tries.specs.ListTries.{list_limits}

abbrev pub lists : Layout → Place → List ℕ → Meaning HeldOp
lists l p free = bounded_meaning (list_crew l p free) l p free (list_limits l p free)

-- Over each layout of a list or a hash table, with each placement and each pool, it keeps every law of a structure, and
-- those that a structure around it needs.
pub record ListsAreLawful : Type 0 where
  pub lawful : (l : Layout) (p : Place) (free : List ℕ) → IsOfLists l → Lawful (lists l p free)
  pub wrappable : (l : Layout) (p : Place) (free : List ℕ) → IsOfLists l → Wrappable (lists l p free)
