-- What a write-back by anybody, or an exchange that another worker wins, leaves of a heap.
use Rattle.std.specs.Prelude.{◌≡◌, ◌⊎◌, ℕ, ◌<◌, true, List, ◌++◌, length, Option, Some, Contains}
use Rattle.flit_words.specs.declared.layouts.Layout.{Layout}
use Rattle.flit_words.specs.Layouts.{row_word_of, value_word_of, above_keys}
use Rattle.flit_model.specs.declared.calls.Entry.{Entry}
use Rattle.flit_runs.specs.Workings.{Dependency}
use Rattle.flit_structure.specs.Lawful.{StandsFrom}
use Rattle.flit_crew.specs.Heaps.{at_word, at_shadow, waits_at}
use Rattle.flit_tree_heap.specs.Edges.{Follows}
use Rattle.flit_tree_heap.specs.Views.{TreeHeap, IsLinked, IsAtRest, IsLeafRow, IsEdge, IsLed}

-- a linked row has the key and the value that it had; a leaf stays one
pub record RowStays (l : Layout) (h k : TreeHeap) (row : ℕ) : Type 0 where
  pub key : at_word k (row_word_of l row 0) ≡ at_word h (row_word_of l row 0)
  pub value : l.values ≡ true → at_word k (value_word_of l row) ≡ at_word h (value_word_of l row)
  pub leaf : IsLeafRow h row → IsLeafRow k row

-- the word of an edge stays, and may have been written back; or it was at rest, and another value follows
abbrev pub EdgeGoesOn : TreeHeap → TreeHeap → ℕ → Type 0
EdgeGoesOn h k edge =
    ((at_word k edge ≡ at_word h edge) × ((at_shadow k edge ≡ at_shadow h edge) ⊎ (at_shadow k edge ≡ at_word h edge)))
    ⊎ (IsAtRest h edge × (at_shadow k edge ≡ at_shadow h edge) × Follows (at_word h edge) (at_word k edge))

-- an update that waits goes on waiting, at a word that stays; or it is settled now
abbrev pub UpdateStays : TreeHeap → TreeHeap → ℕ → Entry → Type 0
UpdateStays h k w e =
    ((waits_at k w ≡ Some e) × (at_word k w ≡ at_word h w)) ⊎ StandsFrom (length h.progress.settled) k.progress.settled e

module _ (l : Layout) (free : List ℕ) where
  -- whose event it is plays no part
  pub record IsLater (who : Option ℕ) (h k : TreeHeap) : Type 0 where
    pub opening : k.opening ≡ h.opening
    pub given : (row : ℕ) → Contains h.given row → Contains k.given row
    pub rows : (row : ℕ) → IsLinked l h row → RowStays l h k row
    pub edges : (edge : ℕ) → IsEdge l h edge → EdgeGoesOn h k edge
    pub settled : (new : List Entry) × (k.progress.settled ≡ h.progress.settled ++ new)
    pub waits : (w : ℕ) (e : Entry) → waits_at h w ≡ Some e → UpdateStays h k w e
    -- whoever was led is led, though rows were cut off
    pub led : (needs : List Dependency) (key row : ℕ) → key < above_keys 1 → IsLed l free h needs key row → IsLed l free k needs key row
