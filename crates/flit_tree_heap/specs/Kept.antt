-- What stays true of the tree's heap, whatever happens.
use Rattle.std.specs.Prelude.{◌≡◌, ◌≢◌, ◌⊎◌, ℕ, ◌<◌, ◌≤◌, true, false, List, length, slice_index, Contains, Some}
use Rattle.std.specs.FinMap as fin
use Rattle.flit_words.specs.declared.layouts.Layout.{Layout}
use Rattle.flit_words.specs.Layouts.{words_of, last_row_of, first_row_of, row_word_of, value_word_of, above_keys}
use Rattle.flit_words.specs.Words.{is_tagged, value_of}
use Rattle.flit_model.specs.declared.calls.Entry.{Entry}
use Rattle.flit_model.specs.Maps.{Map, IsLegal, map_after, reply_of, key_of}
use Rattle.flit_model.specs.Histories.{is_update}
use Rattle.flit_model.specs.Trees.{Tree, IsLawfulTree, rows_in_tree, tree_map}
use Rattle.flit_structure.specs.Lawful.{is_insert}
use Rattle.flit_crew.specs.Heaps.{at_word, at_shadow, waits_at, IsOpen, IsAhead}
use Rattle.flit_tree_heap.specs.Edges.{left, right, other, row_of, flag_of, frozen_of, IsPlain, Follows}
use Rattle.flit_tree_heap.specs.Routes.{IsOnRoute, reading}
use Rattle.flit_tree_heap.specs.Views.{TreeHeap, IsTreeLayout, settled_map, Reaches, IsLinked, IsAtRest, IsLeafRow, IsInnerRow, IsEdge, IsView}

-- ---- rows

-- a row of the pool: a call may be given it, and the opening's image doesn't reach it
pub record IsPoolRow (l : Layout) (h : TreeHeap) (row : ℕ) : Type 0 where
  pub least : first_row_of l.kind ≤ row
  pub most : row ≤ last_row_of l
  pub unreached : Reaches l h.opening.words row → ⊥

-- what a linked row keeps: its key and its value never change, and it stays a leaf or an inner row
pub record IsSettledRow (l : Layout) (h : TreeHeap) (row : ℕ) : Type 0 where
  pub key : IsAtRest h (row_word_of l row 0)
  pub value : l.values ≡ true → IsAtRest h (value_word_of l row)
  pub kind : IsLeafRow h row ⊎ IsInnerRow l h row

-- where a flag may lead: to a leaf with the key of a call
pub record MayBeFlagged (l : Layout) (h : TreeHeap) (row : ℕ) : Type 0 where
  pub leaf : IsLeafRow h row
  pub below : value_of (at_word h (row_word_of l row 0)) < above_keys 0
  pub not_three : row ≢ 3

-- the bits of an edge: its word may follow its shadow; a flag leads to a leaf; and where it is frozen, the other edge of
-- its row is flagged, persistently
pub record HasRightBits (l : Layout) (h : TreeHeap) (edge : ℕ) : Type 0 where
  pub follows : Follows (at_shadow h edge) (at_word h edge)
  pub flagged : flag_of (at_word h edge) ≡ true → MayBeFlagged l h (row_of (at_word h edge))
  pub frozen : frozen_of (at_word h edge) ≡ true → flag_of (at_shadow h (other edge)) ≡ true

-- one edge frozen and the other flagged, in words and shadows
pub record IsCutBetween (h : TreeHeap) (frozen flagged : ℕ) : Type 0 where
  pub frozen_word : frozen_of (at_word h frozen) ≡ true
  pub frozen_shadow : frozen_of (at_shadow h frozen) ≡ true
  pub flagged_word : flag_of (at_word h flagged) ≡ true
  pub flagged_shadow : flag_of (at_shadow h flagged) ≡ true

-- a row that was cut off: one of its edges is frozen, the other one flagged
abbrev pub IsCutOff : TreeHeap → ℕ → Type 0
IsCutOff h row = IsCutBetween h (left row) (right row) ⊎ IsCutBetween h (right row) (left row)

-- ---- updates

-- a map is the settled one, with those updates made that wait at words which an image has: each such update gives its
-- key what it makes of the settled map, and every other key has what the settled map has
pub record HasTaken (h : TreeHeap) (image : List ℕ) (m : Map) : Type 0 where
  pub taken : (w : ℕ) (e : Entry) → waits_at h w ≡ Some e → slice_index image w ≡ at_word h w →
      fin.get m (key_of e.call) ≡ fin.get (map_after (settled_map h) e.call) (key_of e.call)
  pub others : (key : ℕ) → ((w : ℕ) (e : Entry) → waits_at h w ≡ Some e → slice_index image w ≡ at_word h w → key_of e.call ≢ key) →
      fin.get m key ≡ fin.get (settled_map h) key

module _ (l : Layout) (free : List ℕ) where
  -- an update that waits: at an edge that is ahead, whose shadow has no bit and which isn't frozen, and which is flagged
  -- for a remove; it is legal behind the settled updates, and the edge is on its key's route in each view
  pub record IsWaiting (h : TreeHeap) (w : ℕ) (e : Entry) : Type 0 where
    pub edge : IsEdge l h w
    pub ahead : IsAhead h w
    pub plain : IsPlain (at_shadow h w)
    pub unfrozen : frozen_of (at_word h w) ≡ false
    pub flagged : is_insert e.call ≡ false → flag_of (at_word h w) ≡ true
    pub update : is_update e ≡ true
    pub legal : e.reply ≡ reply_of (settled_map h) e.call
    pub below : key_of e.call < above_keys 0
    pub routes : (image : List ℕ) (t : Tree) → IsView l free h image → IsLawfulTree l image t → IsOnRoute (reading l image) (key_of e.call) w 4 t

  -- a view that has the word wherever everybody may reach it
  abbrev pub HasWords : TreeHeap → List ℕ → Type 0
  HasWords h image = (w : ℕ) → IsOpen l free h w → slice_index image w ≡ at_word h w

  pub record IsKept (h : TreeHeap) : Type 0 where
    pub layout : IsTreeLayout l
    -- as many words and shadows as the layout has, none with a tag
    pub words : length h.words ≡ words_of l
    pub shadows : length h.shadows ≡ words_of l
    pub untagged : (w : ℕ) → w < words_of l → is_tagged (at_shadow h w) ≡ false
    pub bare : (w : ℕ) → IsOpen l free h w → is_tagged (at_word h w) ≡ false
    -- a word is its shadow, or has the next version
    pub gap : (w : ℕ) → IsOpen l free h w → IsAtRest h w ⊎ IsAhead h w
    -- the rows
    pub pool : (row : ℕ) → Contains free row → IsPoolRow l h row
    pub given : (row : ℕ) → Contains h.given row → Contains free row
    pub linked : (row : ℕ) → IsLinked l h row → IsSettledRow l h row
    pub bits : (edge : ℕ) → IsEdge l h edge → HasRightBits l h edge
    -- each view is a lawful tree, with the map of the settled updates and of those that it takes
    pub images : (image : List ℕ) → IsView l free h image → (t : Tree) × IsLawfulTree l image t
    pub maps : (image : List ℕ) (t : Tree) → IsView l free h image → IsLawfulTree l image t → HasTaken h image (tree_map l image t)
    -- the updates that wait, of different keys, and those that are settled
    pub waits : (w : ℕ) (e : Entry) → waits_at h w ≡ Some e → IsWaiting h w e
    pub apart : (w v : ℕ) (d e : Entry) → waits_at h w ≡ Some d → waits_at h v ≡ Some e → key_of d.call ≡ key_of e.call → w ≡ v
    pub settled : IsLegal h.opening.content h.progress.settled
    -- an inner row but row 2 stands in the tree of the words, or was cut off
    pub gone : (row : ℕ) → IsLinked l h row → IsInnerRow l h row → row ≢ 2 → (image : List ℕ) (t : Tree) → IsView l free h image → HasWords h image →
        IsLawfulTree l image t → Contains (rows_in_tree t) row ⊎ IsCutOff h row
