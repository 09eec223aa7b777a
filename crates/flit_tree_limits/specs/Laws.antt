-- What the tree shows of its counts and its bounds.
use Rattle.std.specs.Prelude.{ℕ, List}
use Rattle.flit_words.specs.declared.layouts.Layout.{Layout}
use Rattle.flit_place.specs.Tags.{Place}
use Rattle.flit_crew_bounds.specs.Counting.{KeepsCounts}
use Rattle.flit_crew_bounds.specs.Bounding.{KeepsLimits}
use Rattle.flit_tree_laws.specs.TreeCrew.{tree_crew}
use Rattle.flit_tree_limits.specs.TreeLimits.{tree_limits}

-- the counts of a call, and its spare rows
abbrev pub TreesCount : Type 0
TreesCount = (l : Layout) (p : Place) (free : List ℕ) → KeepsCounts (tree_crew l p free) p free

-- what may follow a call's machine falls with its events; and a seek begins only where an exchange was lost, or a swing won
-- for another
abbrev pub TreesKeepLimits : Type 0
TreesKeepLimits = (l : Layout) (p : Place) (free : List ℕ) → KeepsLimits (tree_crew l p free) l p free (tree_limits l p free)
