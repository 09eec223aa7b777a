-- All laws of a structure, of the map of at most one key: those of the crew, and those of its bounds.
use Rattle.std.specs.Prelude.{ℕ, List}
use Rattle.flit_words.specs.declared.layouts.Layout.{Layout}
use Rattle.flit_place.specs.Tags.{Place}
use Rattle.flit_structure.specs.Lawful.{Lawful, Wrappable}
use Rattle.flit_crew_bounds.proofs.CrewLaws.{bounded_lawful, bounded_wrappable}
use Rattle.flit_one_key.specs.Steps.{IsSmall}
use Rattle.flit_one_key_crew.specs.OneKeyCrew.{one_key_crew}
use Rattle.flit_one_key_crew.proofs.Keeping.{one_key_keeps}
use Rattle.flit_one_key_crew.proofs.Openings.{opens_so}
use Rattle.flit_one_key_limits.specs.OneKeyLimits.{one_key_limits}
use Rattle.flit_one_key_limits.proofs.OneKeyKeepsLimits.{one_key_is_bounded}
use Rattle.flit_one_key_laws.specs.OneKey.{one_key}

module _ (l : Layout) (p : Place) (free : List ℕ) (small : IsSmall l) where
  pub one_key_lawful : Lawful (one_key l p free)
  one_key_lawful = bounded_lawful (one_key_crew l free) l p free (one_key_limits l p free) (one_key_keeps.keeps l p free small)
      (one_key_is_bounded.counts l p free) (one_key_is_bounded.limits l p free small) (λ o may. opens_so l p free o may small)

  pub one_key_wrappable : Wrappable (one_key l p free)
  one_key_wrappable = bounded_wrappable (one_key_crew l free) l p free (one_key_limits l p free) (one_key_keeps.keeps l p free small)
      (one_key_is_bounded.counts l p free) (one_key_is_bounded.limits l p free small)
