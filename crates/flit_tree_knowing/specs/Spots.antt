-- Where a search stands: the edge behind which its key belongs, the edge that it would take out from, and the row that it
-- looks at.
use Rattle.std.specs.Prelude.{◌≡◌, ◌⊎◌, ℕ, List}
use Rattle.flit_words.specs.declared.layouts.Layout.{Layout}
use Rattle.flit_runs.specs.Workings.{Dependency}
use Rattle.flit_tree_heap.specs.Edges.{row_of, IsPlain}
use Rattle.flit_tree_heap.specs.Views.{TreeHeap, IsLinked, IsLeafRow, IsInnerRow, IsLed}
use Rattle.flit_tree_heap.specs.Exchanges.{side_now, IsTrail}
use Rattle.flit_tree_heap.specs.Searches.{HasLoaded}
use Rattle.flit_tree_knowing.specs.Positions.{Tells}

-- an edge for the key, of an inner row that leads the search, had this value
pub record IsSpot (l : Layout) (free : List ℕ) (h : TreeHeap) (needs : List Dependency) (key edge x : ℕ) : Type 0 where
  pub row : ℕ
  pub linked : IsLinked l h row
  pub inner : IsInnerRow l h row
  pub side : side_now l h key row ≡ edge
  pub led : IsLed l free h needs key row
  pub loaded : HasLoaded l h needs edge x

-- an edge without bits, from whose row one comes to another row by frozen edges: all that lies between may be cut out
pub record IsWay (l : Layout) (free : List ℕ) (h : TreeHeap) (needs : List Dependency) (key edge x end : ℕ) : Type 0 where
  pub spot : IsSpot l free h needs key edge x
  pub plain : IsPlain x
  pub rows : List ℕ
  pub trail : IsTrail l h needs key (row_of x) rows end

-- the search is still at its first edge, or there is such a way to the row of its edge
abbrev pub IsTopOrWay : Layout → List ℕ → TreeHeap → List Dependency → ℕ → ℕ → ℕ → ℕ → ℕ → ℕ → Type 0
IsTopOrWay l free h needs key ancestor a edge x row = ((row ≡ 2) × (ancestor ≡ edge) × (a ≡ x)) ⊎ IsWay l free h needs key ancestor a row

-- the row that a value of an edge leads to: a leaf, which tells of the key where the edge has no bit; or an inner row,
-- which leads the search
abbrev pub Reached : Layout → List ℕ → TreeHeap → List Dependency → ℕ → ℕ → ℕ → Type 0
Reached l free h needs first key x = (IsLeafRow h (row_of x) × (IsPlain x → Tells l h needs first key (row_of x)))
    ⊎ (IsInnerRow l h (row_of x) × IsLed l free h needs key (row_of x))
