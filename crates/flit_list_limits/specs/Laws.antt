-- What a list or a hash table shows of its counts, of its spare rows, and of its bounds.
use Rattle.std.specs.Prelude.{ℕ, List, Option}
use Rattle.flit_words.specs.declared.layouts.Layout.{Layout}
use Rattle.flit_place.specs.Tags.{Place}
use Rattle.flit_crew_bounds.specs.Counting.{KeepsCounts}
use Rattle.flit_crew_bounds.specs.Bounding.{View, AreTriesKept, KeepsLimits}
use Rattle.flit_list_steps.specs.Operations.{HeldOp}
use Rattle.flit_list_laws.specs.ListCrew.{list_crew}
use Rattle.flit_list_limits.specs.ListLimits.{limits_with}

-- The counts of a call begin with its hand's, but for the search, and go on with those of its ended machine, but for loads,
-- a help and a search. Its spare rows go on too, unless they were linked.
pub record ListsCount : Type 0 where
  pub counts : (l : Layout) (p : Place) (free : List ℕ) → KeepsCounts (list_crew l p free) p free

-- With whatever bound of a try: where the events of its tries are kept within that bound, a list or a hash table keeps its
-- bounds. While a machine runs no more may follow it, from machine to machine no more either, and a search begins again only
-- where an exchange was lost.
pub record ListsKeepLimits : Type 0 where
  pub limits : (l : Layout) (p : Place) (free : List ℕ) (bound : Option ℕ) (allowed : View → HeldOp → ℕ) →
      let limits = limits_with l p free bound allowed in
      AreTriesKept (list_crew l p free) l p free limits bound → KeepsLimits (list_crew l p free) l p free limits
