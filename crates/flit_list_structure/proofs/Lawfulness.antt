-- All laws of a structure, of a list or a hash table: those of the crew, and those of its bounds.
use Rattle.std.specs.Prelude.{ℕ, List}
use Rattle.flit_words.specs.declared.layouts.Layout.{Layout}
use Rattle.flit_place.specs.Tags.{Place}
use Rattle.flit_structure.specs.Lawful.{Lawful, Wrappable}
use Rattle.flit_crew_bounds.proofs.CrewLaws.{bounded_lawful, bounded_wrappable}
use Rattle.flit_list_laws.specs.ListCrew.{IsOfLists, list_crew}
use Rattle.flit_list_laws.proofs.Keeping.{lists_keep}
use Rattle.flit_list_limits.proofs.ListCounts.{lists_count}
use Rattle.flit_list_tries.specs.ListTries.{list_limits}
use Rattle.flit_list_tries.proofs.Tries.{lists_keep_bounds}
use Rattle.flit_list_structure.specs.ListStructure.{lists}

module _ (l : Layout) (p : Place) (free : List ℕ) (chains : IsOfLists l) where
  pub list_lawful : Lawful (lists l p free)
  list_lawful = bounded_lawful (list_crew l p free) l p free (list_limits l p free) (lists_keep.keeps l p free chains) (lists_count.counts l p free)
      (lists_keep_bounds.limits l p free chains) (λ o may. lists_keep.opens l p free o chains may.pool may.lawful may.slots)

  pub list_wrappable : Wrappable (lists l p free)
  list_wrappable = bounded_wrappable (list_crew l p free) l p free (list_limits l p free) (lists_keep.keeps l p free chains) (lists_count.counts l p free)
      (lists_keep_bounds.limits l p free chains)
