-- A map of at most one key as a structure: what its calls ask and do, its bounds, and what is true at each moment. It has a
-- layout, a placement and a pool of free rows.
use Rattle.std.specs.Prelude.{ℕ, List}
use Rattle.flit_words.specs.declared.layouts.Layout.{Layout}
use Rattle.flit_place.specs.Tags.{Place}
use Rattle.flit_structure.specs.Meanings.{Meaning}
use Rattle.flit_structure.specs.Lawful.{Lawful, Wrappable}
use Rattle.flit_crew_bounds.specs.BoundedMeanings.{bounded_meaning}
use Rattle.flit_one_key.specs.Operations.{HeldOp}
use Rattle.flit_one_key.specs.Steps.{IsSmall}
use Rattle.flit_one_key_crew.specs.OneKeyCrew.{one_key_crew}
use Rattle.flit_one_key_limits.specs.OneKeyLimits.{one_key_limits}

abbrev pub one_key : Layout → Place → List ℕ → Meaning HeldOp
one_key l p free = bounded_meaning (one_key_crew l free) l p free (one_key_limits l p free)

-- Over each layout of one row, with each placement and each list of free rows, it keeps every law of a structure, and
-- those that a structure around it needs.
pub record OneKeyIsLawful : Type 0 where
  pub lawful : (l : Layout) (p : Place) (free : List ℕ) → IsSmall l → Lawful (one_key l p free)
  pub wrappable : (l : Layout) (p : Place) (free : List ℕ) → IsSmall l → Wrappable (one_key l p free)
