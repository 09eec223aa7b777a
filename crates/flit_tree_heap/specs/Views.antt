-- The views of a heap, its linked rows, and what a searcher knows of the views.
use Rattle.std.specs.Prelude.{◌≡◌, ◌⊎◌, ℕ, ◌<◌, false, List, length, slice_index, Contains}
use Rattle.flit_words.specs.declared.layouts.Layout.{Layout}
use Rattle.flit_words.specs.declared.layouts.Kind.TheVariants.{Tree as Tree_kind}
use Rattle.flit_words.specs.Layouts.{Accepted, words_of}
use Rattle.flit_words.specs.Words.{is_tagged, value_of, version_of}
use Rattle.flit_model.specs.Maps.{Map, map_after_all}
use Rattle.flit_model.specs.Trees.{Tree, IsLawfulTree, rows_in_tree}
use Rattle.flit_runs.specs.Workings.{Dependency}
use Rattle.flit_runs.specs.Soundness.{Needs}
use Rattle.flit_crew.specs.Heaps.{Heap, at_word, at_shadow, IsOpen}
use Rattle.flit_tree_heap.specs.Edges.{left, right, row_of}
use Rattle.flit_tree_heap.specs.Routes.{Leads, reading}

-- the tree keeps nothing beside its words
abbrev pub TreeHeap : Type 0
TreeHeap = Heap (Unit {0})

pub record IsTreeLayout (l : Layout) : Type 0 where
  pub accepted : Accepted l
  pub kind : l.kind ≡ Tree_kind

-- the map after the settled updates
abbrev pub settled_map : TreeHeap → Map
settled_map h = map_after_all h.opening.content h.progress.settled

-- a row that the tree of an image has
abbrev pub Reaches : Layout → List ℕ → ℕ → Type 0
Reaches l image row = (t : Tree) × IsLawfulTree l image t × Contains (rows_in_tree t) row

-- a linked row: row 2, whose left edge is word 4, row 4 beside it, a row that the opening's image reaches, or one that
-- an insert has linked since
abbrev pub IsLinked : Layout → TreeHeap → ℕ → Type 0
IsLinked l h row = (row ≡ 2) ⊎ ((row ≡ 4) ⊎ (Reaches l h.opening.words row ⊎ Contains h.given row))

-- a word that is its shadow
abbrev pub IsAtRest : TreeHeap → ℕ → Type 0
IsAtRest h w = at_word h w ≡ at_shadow h w

-- a leaf: both of its edges are 0, and at rest
pub record IsLeafRow (h : TreeHeap) (row : ℕ) : Type 0 where
  pub left_rest : IsAtRest h (left row)
  pub right_rest : IsAtRest h (right row)
  pub no_left : value_of (at_word h (left row)) ≡ 0
  pub no_right : value_of (at_word h (right row)) ≡ 0

-- an edge whose word and shadow both lead to linked rows
pub record LeadsOn (l : Layout) (h : TreeHeap) (edge : ℕ) : Type 0 where
  pub word : IsLinked l h (row_of (at_word h edge))
  pub shadow : IsLinked l h (row_of (at_shadow h edge))

-- an inner row: both of its edges lead to linked rows
pub record IsInnerRow (l : Layout) (h : TreeHeap) (row : ℕ) : Type 0 where
  pub left_on : LeadsOn l h (left row)
  pub right_on : LeadsOn l h (right row)

-- an edge of a linked inner row
pub record IsEdge (l : Layout) (h : TreeHeap) (edge : ℕ) : Type 0 where
  pub row : ℕ
  pub linked : IsLinked l h row
  pub inner : IsInnerRow l h row
  pub side : (edge ≡ left row) ⊎ (edge ≡ right row)

module _ (l : Layout) (free : List ℕ) where
  -- A view of a heap: at each place that everybody may reach the word or its shadow, each place chosen by itself; at the
  -- others anything without a tag. The words, the shadows, each crash image, and what a worker has queued are views.
  pub record IsView (h : TreeHeap) (image : List ℕ) : Type 0 where
    pub whole : length image ≡ words_of l
    pub untagged : (w : ℕ) → w < words_of l → is_tagged (slice_index image w) ≡ false
    pub places : (w : ℕ) → IsOpen l free h w → (slice_index image w ≡ at_word h w) ⊎ (slice_index image w ≡ at_shadow h w)

  -- a view takes what some needs have: the word wherever its version is among them
  abbrev pub Takes : TreeHeap → List Dependency → List ℕ → Type 0
  Takes h needs image = (w : ℕ) → IsOpen l free h w → Needs needs w (version_of (at_word h w)) → slice_index image w ≡ at_word h w

  -- in each view that takes the needs a row leads a search for the key to where its route ends
  abbrev pub IsLed : TreeHeap → List Dependency → ℕ → ℕ → Type 0
  IsLed h needs key row =
      (image : List ℕ) (t : Tree) → IsView h image → Takes h needs image → IsLawfulTree l image t → Leads (reading l image) t key row
