-- What a searcher knows of edges that it has loaded, and what the leaf at its end tells.
use Rattle.std.specs.Prelude.{◌≡◌, ◌≢◌, ◌⊎◌, ℕ, ◌<◌, ◌≤◌, List, Some, None, if◌then◌else◌}
use Rattle.std.specs.FinMap as fin
use Rattle.flit_words.specs.declared.layouts.Layout.{Layout}
use Rattle.flit_words.specs.Layouts.{value_word_of, above_keys}
use Rattle.flit_words.specs.Words.{value_of, version_of}
use Rattle.flit_model.specs.declared.calls.Call.TheVariants.{Insert}
use Rattle.flit_model.specs.declared.calls.Entry.{Entry}
use Rattle.flit_runs.specs.Workings.{Dependency}
use Rattle.flit_runs.specs.Soundness.{Needs}
use Rattle.flit_crew.specs.Heaps.{at_word, at_shadow, waits_at}
use Rattle.flit_tree_heap.specs.Edges.{row_of, IsPlain, Follows}
use Rattle.flit_tree_heap.specs.Views.{TreeHeap, settled_map, IsLinked, IsLeafRow, IsInnerRow, IsEdge, IsLed}
use Rattle.flit_tree_heap.specs.Exchanges.{key_now, side_now}

-- a value is that of an edge's word, or was: the word may follow it, and so may the shadow, unless it is the word
abbrev pub IsPast : TreeHeap → ℕ → ℕ → Type 0
IsPast h edge q =
    Follows q (at_word h edge) × ((q ≡ at_word h edge) ⊎ ((version_of q ≤ version_of (at_shadow h edge)) × Follows q (at_shadow h edge)))

-- a value was loaded from an edge of an inner row: it is past, depended on, and leads to a linked row
pub record HasLoaded (l : Layout) (h : TreeHeap) (needs : List Dependency) (edge q : ℕ) : Type 0 where
  pub at : IsEdge l h edge
  pub past : IsPast h edge q
  pub needed : Needs needs edge (version_of q)
  pub linked : IsLinked l h (row_of q)

-- the value of a row: 0 in a layout without values
abbrev pub value_now : Layout → TreeHeap → ℕ → ℕ
value_now l h row = if l.values then value_of (at_word h (value_word_of l row)) else 0

-- a search has come to a leaf: from an inner row that leads it, by an edge without bits, which is depended on
pub record EndsAtLeaf (l : Layout) (free : List ℕ) (h : TreeHeap) (needs : List Dependency) (key row : ℕ) : Type 0 where
  pub linked : IsLinked l h row
  pub inner : IsInnerRow l h row
  pub led : IsLed l free h needs key row
  pub needed : Needs needs (side_now l h key row) (version_of (at_word h (side_now l h key row)))
  pub plain : IsPlain (at_word h (side_now l h key row))
  pub leaf : IsLeafRow h (row_of (at_word h (side_now l h key row)))
  pub below : key < above_keys 0

-- an update that waits at a word which is depended on inserts a key with a value
pub record IsInserted (h : TreeHeap) (needs : List Dependency) (key value : ℕ) : Type 0 where
  pub word : ℕ
  pub entry : Entry
  pub waits : waits_at h word ≡ Some entry
  pub needed : Needs needs word (version_of (at_word h word))
  pub call : entry.call ≡ Insert key value

-- what the leaf tells: with another key, that the settled map hasn't the key; with the key, that the settled map has it with
-- the leaf's value, or that its insert waits
pub record IsAnswered (l : Layout) (h : TreeHeap) (needs : List Dependency) (key leaf : ℕ) : Type 0 where
  pub absent : key_now l h leaf ≢ key → fin.get (settled_map h) key ≡ None
  pub present : key_now l h leaf ≡ key → (fin.get (settled_map h) key ≡ Some (value_now l h leaf)) ⊎ IsInserted h needs key (value_now l h leaf)
