-- What a call of the tree knows, by where it is. It speaks of the heap, of what its worker depends on, and of its machine's
-- aim and part: no tag, no slot, no queue.
use Rattle.std.specs.Prelude.{◌≡◌, ◌≢◌, ◌⊎◌, ℕ, ◌<◌, Bool, true, false, List, [], ◌∷◌, Some, None, Contains as Contains_in}
use Rattle.flit_words.specs.declared.layouts.Layout.{Layout}
use Rattle.flit_words.specs.Layouts.{row_word_of, value_word_of}
use Rattle.flit_words.specs.Words.{is_tagged, bare_of, value_of}
use Rattle.flit_model.specs.declared.calls.Call.{Call}
use Rattle.flit_model.specs.declared.calls.Call.TheVariants.{Insert, Remove, Contains, Get}
use Rattle.flit_model.specs.declared.calls.Reply.{Reply}
use Rattle.flit_model.specs.declared.calls.Reply.TheVariants.{Yes, No, Found, Full, Worn}
use Rattle.flit_pv.specs.declared.hands.Hand.{Hand}
use Rattle.flit_pv.specs.Loads.{HeldLoad}
use Rattle.flit_pv.specs.VLoads.{HeldVLoad}
use Rattle.flit_pv.specs.Exchanges.{HeldExchange}
use Rattle.flit_pv.specs.Stores.{HeldStore}
use Rattle.flit_rows.specs.Shares.{rows_in}
use Rattle.flit_runs.specs.Worlds.{IsAway}
use Rattle.flit_structure.specs.Meanings.{key_of, value_put}
use Rattle.flit_structure.specs.Lawful.{is_insert}
use Rattle.flit_crew.specs.Heaps.{at_word, IsWordOf}
use Rattle.flit_crew.specs.Fillings.{HoldFrom}
use Rattle.flit_crew.specs.Machines.{Part, ToRead, HasRead, ToWin, HasWon, HasWritten, HasLost, Other, load_part, v_load_part}
use Rattle.flit_crew.specs.Crews.{Who}
use Rattle.flit_tree_heap.specs.Edges.{left, right, other, row_of, flag_of, frozen_of, IsPlain}
use Rattle.flit_tree_heap.specs.Views.{TreeHeap, IsLinked, IsLeafRow, IsInnerRow}
use Rattle.flit_tree_heap.specs.Exchanges.{key_now, side_now}
use Rattle.flit_tree_heap.specs.Searches.{HasLoaded, value_now}
use Rattle.flit_tree_knowing.specs.Positions.{Saw}
use Rattle.flit_tree_knowing.specs.Spots.{IsSpot, IsWay, IsTopOrWay, Reached}
use Rattle.flit_tree_steps.specs.declared.operations.EdgeWord.{EdgeWord}
use Rattle.flit_tree_steps.specs.declared.operations.Path.{Path}
use Rattle.flit_tree_steps.specs.Steps.{inner_words, leaf_row, inner_row}

-- what is known of a word once it is loaded
abbrev pub IfRead : (ℕ → Type 0) → Part → Type 0
IfRead P (ToRead word) = Unit {0}
IfRead P (HasRead word raw) = P raw
IfRead P ToWin = Unit {0}
IfRead P HasWon = Unit {0}
IfRead P HasWritten = Unit {0}
IfRead P (HasLost found) = Unit {0}
IfRead P Other = Unit {0}

-- what is known by how far an exchange is: before it is won, and behind that
abbrev pub IfTried : Type 0 → Type 0 → Part → Type 0
IfTried P Q (ToRead word) = Unit {0}
IfTried P Q (HasRead word raw) = Unit {0}
IfTried P Q ToWin = P
IfTried P Q HasWon = Q
IfTried P Q HasWritten = Q
IfTried P Q (HasLost found) = Unit {0}
IfTried P Q Other = Unit {0}

-- an edge's value leads to a row, with these bits
pub record LeadsTo (to row : ℕ) (flag frozen : Bool) : Type 0 where
  pub row_is : row_of to ≡ row
  pub flag_is : flag_of to ≡ flag
  pub frozen_is : frozen_of to ≡ frozen

-- an exchange of an edge from what was loaded of it
pub record AimsAt (edge : EdgeWord) (m : HeldExchange) : Type 0 where
  pub word : m.word ≡ edge.word
  pub from_is : m.from ≡ edge.raw

-- the two rows of a hand, both of the pool: the new leaf, and the new inner row
pub record HasRows (free : List ℕ) (hand : Hand) : Type 0 where
  pub leaf : ℕ
  pub inner : ℕ
  pub own : rows_in hand.spare ≡ leaf ∷ inner ∷ []
  pub first : leaf_row hand ≡ leaf
  pub second : inner_row hand ≡ inner
  pub apart : leaf ≢ inner
  pub leaf_free : Contains_in free leaf
  pub inner_free : Contains_in free inner

module _ (l : Layout) (free : List ℕ) (h : TreeHeap) (me : Who) where
  -- nothing is private
  abbrev pub IsAlone : Type 0
  IsAlone = (v : ℕ) → IsAway me.private v

  -- ---- the search

  -- an edge that was loaded leads to a row
  pub record HasEdge (word q : ℕ) : Type 0 where
    pub loaded : HasLoaded l h me.needs word q
    pub reached : Reached l free h me.needs me.first (key_of me.call) q

  pub record KnowsRoot (m : HeldLoad) : Type 0 where
    pub alone : IsAlone
    pub word : m.word ≡ 4
    pub read : IfRead (λ raw. HasEdge 4 (bare_of raw)) (load_part m.at m.word)

  -- the search stands at the path's edge, with its ancestor
  pub record Stands (path : Path) : Type 0 where
    pub spot : IsSpot l free h me.needs (key_of me.call) path.edge.word (bare_of path.edge.raw)
    pub top : IsTopOrWay l free h me.needs (key_of me.call) path.ancestor.word (bare_of path.ancestor.raw) path.edge.word (bare_of path.edge.raw) spot.row

  pub record KnowsKey (path : Path) (m : HeldLoad) : Type 0 where
    pub alone : IsAlone
    pub stands : Stands path
    pub reached : Reached l free h me.needs me.first (key_of me.call) (bare_of path.edge.raw)
    pub word : m.word ≡ row_word_of l (row_of (bare_of path.edge.raw)) 0
    pub read : IfRead (λ raw. bare_of raw ≡ at_word h (row_word_of l (row_of (bare_of path.edge.raw)) 0)) (load_part m.at m.word)

  -- the edge below was loaded: of an inner row, or of a leaf
  abbrev pub EdgeRead : ℕ → ℕ → Type 0
  EdgeRead r raw = (IsInnerRow l h r × HasEdge (side_now l h (key_of me.call) r) (bare_of raw)) ⊎ (IsLeafRow h r × (value_of (bare_of raw) ≡ 0))

  pub record KnowsEdge (path : Path) (m : HeldLoad) : Type 0 where
    pub alone : IsAlone
    pub stands : Stands path
    pub reached : Reached l free h me.needs me.first (key_of me.call) (bare_of path.edge.raw)
    pub key_is : path.key ≡ key_now l h (row_of (bare_of path.edge.raw))
    pub word : m.word ≡ side_now l h (key_of me.call) (row_of (bare_of path.edge.raw))
    pub read : IfRead (EdgeRead (row_of (bare_of path.edge.raw))) (load_part m.at m.word)

  -- ---- an insert

  -- its place is at a plain edge to a leaf with another key
  pub record HasPlace (path : Path) : Type 0 where
    pub spot : IsSpot l free h me.needs (key_of me.call) path.edge.word (bare_of path.edge.raw)
    pub plain : IsPlain (bare_of path.edge.raw)
    pub leaf : IsLeafRow h (row_of (bare_of path.edge.raw))
    pub key_is : path.key ≡ key_now l h (row_of (bare_of path.edge.raw))
    pub another : path.key ≢ key_of me.call
    pub insert : is_insert me.call ≡ true

  pub record KnowsRows (path : Path) : Type 0 where
    pub alone : IsAlone
    pub place : HasPlace path

  -- only words of the leaf's parts are private
  pub record KnowsLeaf (path : Path) (m : HeldStore) : Type 0 where
    pub place : HasPlace path
    pub rows : HasRows free m.hand
    pub private : (v : ℕ) → ((part : ℕ) → part < 3 → v ≢ row_word_of l rows.leaf part) → IsAway me.private v

  abbrev pub HoldsLeaf : ℕ → Type 0
  HoldsLeaf leaf = HoldFrom h (row_word_of l leaf 0) (key_of me.call ∷ 0 ∷ 0 ∷ [])

  pub record KnowsLeafValue (path : Path) (m : HeldStore) : Type 0 where
    pub place : HasPlace path
    pub rows : HasRows free m.hand
    pub valued : l.values ≡ true
    pub stored : HoldsLeaf rows.leaf
    pub private : (v : ℕ) → (IsWordOf l rows.leaf v → ⊥) → IsAway me.private v

  abbrev pub HoldsValue : ℕ → Type 0
  HoldsValue leaf = l.values ≡ true → value_of (at_word h (value_word_of l leaf)) ≡ value_put me.call

  pub record KnowsInner (path : Path) (m : HeldStore) : Type 0 where
    pub place : HasPlace path
    pub rows : HasRows free m.hand
    pub stored : HoldsLeaf rows.leaf
    pub value : HoldsValue rows.leaf

  pub record LinksTo (path : Path) (m : HeldExchange) : Type 0 where
    pub place : HasPlace path
    pub rows : HasRows free m.hand
    pub stored : HoldsLeaf rows.leaf
    pub value : HoldsValue rows.leaf
    pub inner_stored : HoldFrom h (row_word_of l rows.inner 0) (inner_words (key_of me.call) path.key rows.leaf (row_of (bare_of path.edge.raw)))
    pub aim : AimsAt path.edge m
    pub to : LeadsTo m.to rows.inner false false

  -- ---- a remove, and clean-ups

  pub record FlagsTo (path : Path) (m : HeldExchange) : Type 0 where
    pub stands : Stands path
    pub plain : IsPlain (bare_of path.edge.raw)
    pub leaf : IsLeafRow h (row_of (bare_of path.edge.raw))
    pub has_key : key_now l h (row_of (bare_of path.edge.raw)) ≡ key_of me.call
    pub aim : AimsAt path.edge m
    pub to : LeadsTo m.to (row_of (bare_of path.edge.raw)) true false

  -- an edge with this value is flagged, and there is a way to its row
  pub record Cleans (path : Path) (x : ℕ) : Type 0 where
    pub spot : IsSpot l free h me.needs (key_of me.call) path.edge.word x
    pub flagged : flag_of x ≡ true
    pub way : IsWay l free h me.needs (key_of me.call) path.ancestor.word (bare_of path.ancestor.raw) spot.row

  pub record Flagged (path : Path) (m : HeldExchange) : Type 0 where
    pub word : m.word ≡ path.edge.word
    pub bare : is_tagged m.to ≡ false
    pub cleans : Cleans path m.to

  pub record KnowsSibling (path : Path) (m : HeldLoad) : Type 0 where
    pub alone : IsAlone
    pub cleans : Cleans path (bare_of path.edge.raw)
    pub word : m.word ≡ other path.edge.word
    pub read : IfRead (λ raw. HasLoaded l h me.needs (other path.edge.word) (bare_of raw)) (load_part m.at m.word)

  pub record FreezesTo (path : Path) (m : HeldExchange) : Type 0 where
    pub cleans : Cleans path (bare_of path.edge.raw)
    pub sibling : path.sibling.word ≡ other path.edge.word
    pub loaded : HasLoaded l h me.needs (other path.edge.word) (bare_of path.sibling.raw)
    pub unfrozen : frozen_of (bare_of path.sibling.raw) ≡ false
    pub aim : AimsAt path.sibling m
    pub to : LeadsTo m.to (row_of (bare_of path.sibling.raw)) (flag_of (bare_of path.sibling.raw)) true

  pub record Frozen (path : Path) (m : HeldExchange) : Type 0 where
    pub cleans : Cleans path (bare_of path.edge.raw)
    pub sibling : path.sibling.word ≡ other path.edge.word
    pub bare : is_tagged m.to ≡ false
    pub loaded : HasLoaded l h me.needs (other path.edge.word) m.to
    pub frozen : frozen_of m.to ≡ true

  -- what is kept stands at a frozen edge of the row to which the way leads
  pub record MaySwing (path : Path) : Type 0 where
    pub spot : IsSpot l free h me.needs (key_of me.call) path.edge.word (bare_of path.edge.raw)
    pub way : IsWay l free h me.needs (key_of me.call) path.ancestor.word (bare_of path.ancestor.raw) spot.row
    pub loaded : HasLoaded l h me.needs path.sibling.word (bare_of path.sibling.raw)
    pub side : (path.sibling.word ≡ left spot.row) ⊎ (path.sibling.word ≡ right spot.row)
    pub frozen : frozen_of (bare_of path.sibling.raw) ≡ true

  pub record SwingsTo (path : Path) (m : HeldExchange) : Type 0 where
    pub keeps : MaySwing path
    pub aim : AimsAt path.ancestor m
    pub to : LeadsTo m.to (row_of (bare_of path.sibling.raw)) (flag_of (bare_of path.sibling.raw)) false

  -- ---- a leaf that was found, and replies

  pub record KnowsValue (path : Path) (m : HeldVLoad) : Type 0 where
    pub valued : l.values ≡ true
    pub linked : IsLinked l h (row_of (bare_of path.edge.raw))
    pub saw : Saw h me.needs me.first (key_of me.call) (Some (value_now l h (row_of (bare_of path.edge.raw))))
    pub word : m.word ≡ value_word_of l (row_of (bare_of path.edge.raw))
    pub read : IfRead (λ raw. bare_of raw ≡ at_word h (value_word_of l (row_of (bare_of path.edge.raw)))) (v_load_part m.at m.word)

  abbrev pub SawSome : Type 0
  SawSome = (value : ℕ) × Saw h me.needs me.first (key_of me.call) (Some value)

  abbrev pub SaysNo : Bool → Type 0
  SaysNo true = SawSome
  SaysNo false = Saw h me.needs me.first (key_of me.call) None

  abbrev pub SaysYes : Call → Type 0
  SaysYes (Insert k v) = Unit {0}
  SaysYes (Remove k) = Unit {0}
  SaysYes (Contains k) = SawSome
  SaysYes (Get k) = Unit {0}

  -- the reply of a read is what was seen of the key
  abbrev pub Says : Reply → Type 0
  Says Yes = SaysYes me.call
  Says No = SaysNo (is_insert me.call)
  Says (Found value) = Saw h me.needs me.first (key_of me.call) (Some value)
  Says (Full ticket) = Unit {0}
  Says (Worn word version) = Unit {0}
