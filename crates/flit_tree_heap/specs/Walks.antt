-- How far a search has still to go.
use Rattle.std.specs.Prelude.{◌≡◌, ℕ, zero, suc, ◌+◌, ◌≤◌, ◌==◌, if◌then◌else◌}
use Rattle.flit_model.specs.Trees.{Tree, Leaf, Inner}
use Rattle.flit_tree_heap.specs.Edges.{left}
use Rattle.flit_tree_heap.specs.Routes.{Reading, side}

-- how many inner rows a tree has
abbrev pub inners : Tree → ℕ
inners (Leaf r) = 0
inners (Inner r a b) = 1 + (inners a + inners b)

-- from a row on, the edges for a key lead over so many inner rows to a leaf
pub data Walks (V : Reading) (key : ℕ) : ℕ → ℕ → Type 0 where
  ended : (row : ℕ) → V.row (left row) ≡ 0 → Walks V key row 0
  step : (row many : ℕ) → 1 ≤ V.row (left row) → Walks V key (V.row (side V key row)) many → Walks V key row (suc many)

-- this number, where it is known to be at most so many
abbrev pub walk : Reading → ℕ → ℕ → ℕ → ℕ
walk V key zero row = 0
walk V key (suc most) row = if V.row (left row) == 0 then 0 else suc (walk V key most (V.row (side V key row)))
