-- What the map had for a key since some number of updates was settled.
use Rattle.std.specs.Prelude.{◌≡◌, ◌≢◌, ◌⊎◌, ℕ, ◌≤◌, List, length, take, Option, Some, None}
use Rattle.std.specs.FinMap as fin
use Rattle.flit_words.specs.declared.layouts.Layout.{Layout}
use Rattle.flit_model.specs.Maps.{map_after_all}
use Rattle.flit_runs.specs.Workings.{Dependency}
use Rattle.flit_tree_heap.specs.Views.{TreeHeap}
use Rattle.flit_tree_heap.specs.Exchanges.{key_now}
use Rattle.flit_tree_heap.specs.Searches.{value_now, IsInserted}

-- at a position that isn't before the first one the key had this value, or none
abbrev pub Had : TreeHeap → ℕ → ℕ → Option ℕ → Type 0
Had h first key o = (position : ℕ) × (first ≤ position) × (position ≤ length h.progress.settled)
    × (fin.get (map_after_all h.opening.content (take position h.progress.settled)) key ≡ o)

-- it had it, or an insert that waits at a word which is depended on gives it
abbrev pub Saw : TreeHeap → List Dependency → ℕ → ℕ → Option ℕ → Type 0
Saw h needs first key o = Had h first key o ⊎ ((value : ℕ) × (o ≡ Some value) × IsInserted h needs key value)

-- what a leaf tells of the key: with another key, that it was absent; with the key, that it had the leaf's value
pub record Tells (l : Layout) (h : TreeHeap) (needs : List Dependency) (first key leaf : ℕ) : Type 0 where
  pub absent : key_now l h leaf ≢ key → Saw h needs first key None
  pub present : key_now l h leaf ≡ key → Saw h needs first key (Some (value_now l h leaf))
