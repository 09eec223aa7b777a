-- What is known of the words where one of the tree's four exchanges is won, and what the exchange leaves. The needs are what
-- the operation depends on, all of it persistent.
use Rattle.std.specs.Prelude.{◌≡◌, ◌⊎◌, ℕ, ◌+◌, ◌<◌, ◌≤◌, true, false, List, [], ◌∷◌, Option, Some, None, Contains, nat_lt, if◌then◌else◌}
use Rattle.flit_words.specs.declared.layouts.Layout.{Layout}
use Rattle.flit_words.specs.Layouts.{row_word_of, value_word_of, above_keys}
use Rattle.flit_words.specs.Words.{is_tagged, value_of, version_of}
use Rattle.flit_model.specs.declared.calls.Call.TheVariants.{Insert, Remove}
use Rattle.flit_model.specs.declared.calls.Entry.{Entry}
use Rattle.flit_runs.specs.Workings.{Dependency}
use Rattle.flit_runs.specs.Soundness.{Needs}
use Rattle.flit_structure.specs.Moments.{update_of}
use Rattle.flit_crew.specs.Heaps.{at_word, at_shadow, waits_at, won, AreResting}
use Rattle.flit_tree_heap.specs.Edges.{left, right, other, row_of, flag_of, frozen_of, IsPlain}
use Rattle.flit_tree_heap.specs.Views.{TreeHeap, IsLinked, IsAtRest, IsLeafRow, IsInnerRow, IsEdge, IsLed}
use Rattle.flit_tree_heap.specs.Kept.{IsKept}
use Rattle.flit_tree_heap.specs.Later.{IsLater}

-- the key of a row, and the edge of a row on the side of a key
abbrev pub key_now : Layout → TreeHeap → ℕ → ℕ
key_now l h row = value_of (at_word h (row_word_of l row 0))

abbrev pub side_now : Layout → TreeHeap → ℕ → ℕ → ℕ
side_now l h key row = if nat_lt key (key_now l h row) then left row else right row

-- a word may be exchanged for another one: it is at rest, no update waits at it, and the other one has the next version
pub record MayBeExchanged (h : TreeHeap) (w to : ℕ) : Type 0 where
  pub rest : IsAtRest h w
  pub none : waits_at h w ≡ None
  pub bare : is_tagged to ≡ false
  pub next : version_of to ≡ version_of (at_word h w) + 1

-- all that is needed is persistent
abbrev pub ArePersistent : TreeHeap → List Dependency → Type 0
ArePersistent h needs = (w v : ℕ) → Needs needs w v → v ≤ version_of (at_shadow h w)

-- a search for a key has come to an edge without bits: the edge for the key of an inner row that leads the search
pub record HasComeTo (l : Layout) (free : List ℕ) (h : TreeHeap) (needs : List Dependency) (key row edge : ℕ) : Type 0 where
  pub persistent : ArePersistent h needs
  pub linked : IsLinked l h row
  pub inner : IsInnerRow l h row
  pub side : side_now l h key row ≡ edge
  pub led : IsLed l free h needs key row
  pub plain : IsPlain (at_word h edge)
  pub below : key < above_keys 0

-- a flag: the edge leads to the key's leaf
pub record IsFlag (l : Layout) (free : List ℕ) (h : TreeHeap) (needs : List Dependency) (key row edge to : ℕ) : Type 0 where
  pub may : MayBeExchanged h edge to
  pub at : HasComeTo l free h needs key row edge
  pub leaf : IsLeafRow h (row_of (at_word h edge))
  pub has_key : key_now l h (row_of (at_word h edge)) ≡ key
  pub same_row : row_of to ≡ row_of (at_word h edge)
  pub flagged : flag_of to ≡ true
  pub unfrozen : frozen_of to ≡ false

-- a freeze: the other edge of the row is flagged, persistently
pub record IsFreeze (l : Layout) (h : TreeHeap) (edge to : ℕ) : Type 0 where
  pub may : MayBeExchanged h edge to
  pub at : IsEdge l h edge
  pub was_unfrozen : frozen_of (at_word h edge) ≡ false
  pub sibling : flag_of (at_word h (other edge)) ≡ true
  pub sibling_kept : flag_of (at_shadow h (other edge)) ≡ true
  pub same_row : row_of to ≡ row_of (at_word h edge)
  pub same_flag : flag_of to ≡ flag_of (at_word h edge)
  pub frozen : frozen_of to ≡ true

-- A new row b, with plain edges to a new leaf and to the leaf that stands at the edge, in the order of their keys; the key
-- of b is the greater one.
pub record IsPair (l : Layout) (h : TreeHeap) (key old_key old inner leaf : ℕ) : Type 0 where
  pub left_plain : IsPlain (at_word h (left inner))
  pub right_plain : IsPlain (at_word h (right inner))
  pub order : ((key < old_key) × (key_now l h inner ≡ old_key) × (row_of (at_word h (left inner)) ≡ leaf) × (row_of (at_word h (right inner)) ≡ old))
      ⊎ ((old_key < key) × (key_now l h inner ≡ key) × (row_of (at_word h (left inner)) ≡ old) × (row_of (at_word h (right inner)) ≡ leaf))

-- a link: the edge leads to a leaf with another key; the two rows are stored
pub record IsLink (l : Layout) (free : List ℕ) (h : TreeHeap) (needs : List Dependency) (key value row edge to inner leaf : ℕ) (rows : List ℕ) : Type 0 where
  pub may : MayBeExchanged h edge to
  pub at : HasComeTo l free h needs key row edge
  pub old_leaf : IsLeafRow h (row_of (at_word h edge))
  pub leads : row_of to ≡ inner
  pub plain : IsPlain to
  -- the rows that are linked
  pub resting : AreResting l free h rows
  pub only : (r : ℕ) → Contains rows r → (r ≡ inner) ⊎ (r ≡ leaf)
  pub has_inner : Contains rows inner
  pub has_leaf : Contains rows leaf
  pub pair : IsPair l h key (key_now l h (row_of (at_word h edge))) (row_of (at_word h edge)) inner leaf
  pub leaf_key : key_now l h leaf ≡ key
  pub leaf_value : l.values ≡ true → value_of (at_word h (value_word_of l leaf)) ≡ value
  pub no_value : l.values ≡ false → value ≡ 0
  pub leaf_left : value_of (at_word h (left leaf)) ≡ 0
  pub leaf_right : value_of (at_word h (right leaf)) ≡ 0

-- from a row on, the edges for a key lead over these rows to another row; each is frozen and needed
abbrev pub IsTrail : Layout → TreeHeap → List Dependency → ℕ → ℕ → List ℕ → ℕ → Type 0
IsTrail l h needs key row [] end = row ≡ end
IsTrail l h needs key row (next ∷ rows) end =
    IsLinked l h row × IsInnerRow l h row × (row_of (at_word h (side_now l h key row)) ≡ next) × (frozen_of (at_word h (side_now l h key row)) ≡ true)
    × Needs needs (side_now l h key row) (version_of (at_word h (side_now l h key row))) × IsTrail l h needs key next rows end

-- a swing: what stands at a frozen edge at the end of a trail is put in the place of all that the edge leads to
pub record IsSwing (l : Layout) (free : List ℕ) (h : TreeHeap) (needs : List Dependency) (key row edge to end kept : ℕ) (rows : List ℕ) : Type 0 where
  pub may : MayBeExchanged h edge to
  pub at : HasComeTo l free h needs key row edge
  pub trail : IsTrail l h needs key (row_of (at_word h edge)) rows end
  pub linked : IsLinked l h end
  pub inner : IsInnerRow l h end
  pub side : (kept ≡ left end) ⊎ (kept ≡ right end)
  pub frozen : frozen_of (at_word h kept) ≡ true
  pub needed : Needs needs kept (version_of (at_word h kept))
  pub same_row : row_of to ≡ row_of (at_word h kept)
  pub same_flag : flag_of to ≡ flag_of (at_word h kept)
  pub unfrozen : frozen_of to ≡ false

module _ (l : Layout) (free : List ℕ) where
  -- the heap that an exchange leaves is kept, and later
  pub record IsWon (h : TreeHeap) (name w to : ℕ) (effect : Option Entry) (rows : List ℕ) : Type 0 where
    pub kept : IsKept l free (won h w to effect rows tt)
    pub later : IsLater l free (Some name) h (won h w to effect rows tt)

  abbrev pub FlagsAreWon : Type 0
  FlagsAreWon =
      (h : TreeHeap) (needs : List Dependency) (key row edge to name number : ℕ) → IsKept l free h → IsFlag l free h needs key row edge to →
      IsWon h name edge to (Some (update_of name number (Remove key))) []

  abbrev pub FreezesAreWon : Type 0
  FreezesAreWon = (h : TreeHeap) (edge to name : ℕ) → IsKept l free h → IsFreeze l h edge to → IsWon h name edge to None []

  abbrev pub LinksAreWon : Type 0
  LinksAreWon =
      (h : TreeHeap) (needs : List Dependency) (key value row edge to inner leaf : ℕ) (rows : List ℕ) (name number : ℕ) → IsKept l free h →
      IsLink l free h needs key value row edge to inner leaf rows → IsWon h name edge to (Some (update_of name number (Insert key value))) rows

  abbrev pub SwingsAreWon : Type 0
  SwingsAreWon =
      (h : TreeHeap) (needs : List Dependency) (key row edge to end kept : ℕ) (rows : List ℕ) (name : ℕ) → IsKept l free h →
      IsSwing l free h needs key row edge to end kept rows → IsWon h name edge to None []
