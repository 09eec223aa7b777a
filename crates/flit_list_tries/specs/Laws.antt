-- What a list or a hash table shows of the events of its tries, and so of all its bounds.
use Rattle.std.specs.Prelude.{ℕ, ◌+◌, ◌*◌, List}
use Rattle.flit_words.specs.declared.layouts.Layout.{Layout}
use Rattle.flit_place.specs.Tags.{Place}
use Rattle.flit_crew_bounds.specs.Bounding.{KeepsTries, KeepsLimits}
use Rattle.flit_list_laws.specs.ListCrew.{IsOfLists, list_crew}
use Rattle.flit_list_tries.specs.ListTries.{list_limits}

-- a try makes at most ten events for each row of the layout, and forty
pub record ListsKeepTries : Type 0 where
  pub tries : (l : Layout) (p : Place) (free : List ℕ) → IsOfLists l → KeepsTries (list_crew l p free) l p free (list_limits l p free) (10 * l.rows + 40)

-- and what may follow falls, and a search begins again only where an exchange was lost
pub record ListsKeepBounds : Type 0 where
  pub limits : (l : Layout) (p : Place) (free : List ℕ) → IsOfLists l → KeepsLimits (list_crew l p free) l p free (list_limits l p free)
