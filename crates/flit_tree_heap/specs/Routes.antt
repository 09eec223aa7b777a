-- Routes of keys through the tree of an image, and what a searcher knows of a row that it has passed.
use Rattle.std.specs.Prelude.{◌≡◌, ◌⊎◌, ℕ, ◌<◌, ◌≤◌, Bool, true, List, slice_index, nat_lt, if◌then◌else◌}
use Rattle.flit_words.specs.declared.layouts.Layout.{Layout}
use Rattle.flit_words.specs.Layouts.{last_row_of}
use Rattle.flit_model.specs.Lists.{key_in, row_value_in}
use Rattle.flit_model.specs.Trees.{Tree, Leaf, Inner}
use Rattle.flit_tree_heap.specs.Edges.{left, right, row_of, flag_of, frozen_of}

-- what an image says: of each edge the row, the flag and the frozen bit, of each row the key and the value
pub record Reading : Type 0 where
  pub row : ℕ → ℕ
  pub flag : ℕ → Bool
  pub frozen : ℕ → Bool
  pub key : ℕ → ℕ
  pub value : ℕ → ℕ
  -- the last row
  pub rows : ℕ

unfoldable pub key_at : Layout → List ℕ → ℕ → ℕ
key_at l image row = key_in l image row

unfoldable pub value_at : Layout → List ℕ → ℕ → ℕ
value_at l image row = row_value_in l image row

unfoldable pub rows_at : Layout → ℕ
rows_at l = last_row_of l

abbrev pub reading : Layout → List ℕ → Reading
reading l image = record {
  row = λ edge. row_of (slice_index image edge);
  flag = λ edge. flag_of (slice_index image edge);
  frozen = λ edge. frozen_of (slice_index image edge);
  key = key_at l image;
  value = value_at l image;
  rows = rows_at l;
}

-- the edge of a row on the side of a key
abbrev pub side : Reading → ℕ → ℕ → ℕ
side V key row = if nat_lt key (V.key row) then left row else right row

-- an edge is on the route of a key through a tree that stands below the edge `top`
abbrev pub IsOnRoute : Reading → ℕ → ℕ → ℕ → Tree → Type 0
IsOnRoute V key edge top (Leaf r) = top ≡ edge
IsOnRoute V key edge top (Inner r a b) =
    (top ≡ edge) ⊎ (((key < V.key r) × IsOnRoute V key edge (left r) a) ⊎ ((V.key r ≤ key) × IsOnRoute V key edge (right r) b))

-- an edge is flagged or frozen
abbrev pub HasBit : Reading → ℕ → Type 0
HasBit V edge = (V.flag edge ≡ true) ⊎ (V.frozen edge ≡ true)

-- A row leads a search for a key to where the key's route ends: it is on the route, or its edge for the key has a bit
-- and goes to a leaf, or to a row that leads so. The last two are what stays of a row that others have cut off.
pub data Leads (V : Reading) (t : Tree) (key : ℕ) : ℕ → Type 0 where
  here : (row : ℕ) → IsOnRoute V key (side V key row) 4 t → Leads V t key row
  ends : (row : ℕ) → HasBit V (side V key row) → V.row (left (V.row (side V key row))) ≡ 0 → Leads V t key row
  on : (row next : ℕ) → HasBit V (side V key row) → V.row (side V key row) ≡ next → Leads V t key next → Leads V t key row
