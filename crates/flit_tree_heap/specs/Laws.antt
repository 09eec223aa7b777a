-- The laws of the tree's heap: those of a write-back and of words that nobody else may reach are what flit_crew asks of a
-- structure, with what is kept and what is later.
use Rattle.std.specs.Prelude.{◌≢◌, ◌+◌, ◌≤◌, slice_index, Contains, ◌≡◌, ℕ, ◌<◌, true, List, [], ◌∷◌, ◌++◌, Option, None}
use Rattle.flit_words.specs.declared.layouts.Layout.{Layout}
use Rattle.flit_words.specs.Layouts.{above_keys}
use Rattle.flit_words.specs.Words.{version_of}
use Rattle.flit_model.specs.Trees.{Tree, IsLawfulTree, rows_in_tree}
use Rattle.flit_runs.specs.Workings.{Dependency}
use Rattle.flit_runs.specs.Soundness.{Needs}
use Rattle.flit_structure.specs.Lawful.{IsRecoverable}
use Rattle.flit_crew.specs.Heaps.{at_word, at_shadow, written, IsOpen, IsWordOf, IsAhead, AreAlike}
use Rattle.flit_tree_heap.specs.Edges.{row_of, flag_of, frozen_of}
use Rattle.flit_tree_heap.specs.Views.{TreeHeap, IsLinked, IsAtRest, IsInnerRow, IsView, Takes, IsLed}
use Rattle.flit_tree_heap.specs.Kept.{IsKept}
use Rattle.flit_tree_heap.specs.Later.{IsLater}
use Rattle.flit_tree_heap.specs.Routes.{Reading, reading}
use Rattle.flit_tree_heap.specs.Walks.{inners, Walks, walk}
use Rattle.flit_tree_heap.specs.Exchanges.{side_now, IsFreeze, IsSwing, ArePersistent, IsTrail}
use Rattle.flit_tree_heap.specs.Searches.{HasLoaded, EndsAtLeaf, IsAnswered}

-- ---- any heap

-- a write-back of a word that is ahead, by anybody
abbrev pub WriteBacksSettle : Type 0
WriteBacksSettle =
    (l : Layout) (free : List ℕ) (h : TreeHeap) (w : ℕ) → IsKept l free h → IsOpen l free h w → IsAhead h w →
    (ghost : Unit {0}) × IsKept l free (written h w ghost) × IsLater l free None h (written h w ghost)

-- what nobody else may reach changes nothing
abbrev pub PrivateWordsAreBlind : Type 0
PrivateWordsAreBlind =
    (l : Layout) (free : List ℕ) (h k : TreeHeap) (who : Option ℕ) → IsKept l free h → AreAlike l free h k → IsKept l free k × IsLater l free who h k

abbrev pub SameIsLater : Type 0
SameIsLater = (l : Layout) (free : List ℕ) (h : TreeHeap) (who : Option ℕ) → IsLater l free who h h

-- the shadows are a lawful image, with the map after the settled updates
abbrev pub ShadowsRecover : Type 0
ShadowsRecover = (l : Layout) (free : List ℕ) (h : TreeHeap) → IsKept l free h → IsRecoverable l h.opening.content h.shadows h.progress.settled

-- everybody may reach the words of a linked row
abbrev pub LinkedWordsAreOpen : Type 0
LinkedWordsAreOpen =
    (l : Layout) (free : List ℕ) (h : TreeHeap) → IsKept l free h → (row w : ℕ) → IsLinked l h row → IsWordOf l row w → IsOpen l free h w

-- ---- what a searcher knows

-- row 2 is inner
abbrev pub RowTwoIsInner : Type 0
RowTwoIsInner = (l : Layout) (free : List ℕ) (h : TreeHeap) → IsKept l free h → IsInnerRow l h 2

-- a search is led from row 2 on, and by each edge of which it depends on the word
abbrev pub RowTwoLeads : Type 0
RowTwoLeads =
    (l : Layout) (free : List ℕ) (h : TreeHeap) (needs : List Dependency) (key : ℕ) → IsKept l free h → key < above_keys 1 → IsLed l free h needs key 2

abbrev pub NextRowLeads : Type 0
NextRowLeads =
    (l : Layout) (free : List ℕ) (h : TreeHeap) (needs : List Dependency) (key row next : ℕ) → IsKept l free h → IsLinked l h row → IsInnerRow l h row →
    IsLed l free h needs key row → Needs needs (side_now l h key row) (version_of (at_word h (side_now l h key row))) →
    row_of (at_word h (side_now l h key row)) ≡ next → IsLinked l h next → IsInnerRow l h next → IsLed l free h needs key next

-- what is linked stays so, and so does an inner row
abbrev pub InnerRowsLast : Type 0
InnerRowsLast =
    (l : Layout) (free : List ℕ) (who : Option ℕ) (h k : TreeHeap) → IsKept l free h → IsKept l free k → IsLater l free who h k → (row : ℕ) → IsLinked l h row →
    IsLinked l k row × (IsInnerRow l h row → IsInnerRow l k row)

-- what was loaded stays past
abbrev pub LoadedValuesLast : Type 0
LoadedValuesLast =
    (l : Layout) (free : List ℕ) (who : Option ℕ) (h k : TreeHeap) → IsKept l free h → IsKept l free k → IsLater l free who h k →
    (needs : List Dependency) (edge q : ℕ) → HasLoaded l h needs edge q → HasLoaded l k needs edge q

-- a trail of frozen edges lasts, and grows by one edge
abbrev pub TrailsLast : Type 0
TrailsLast =
    (l : Layout) (free : List ℕ) (who : Option ℕ) (h k : TreeHeap) → IsKept l free h → IsKept l free k → IsLater l free who h k →
    (needs : List Dependency) (key row : ℕ) (rows : List ℕ) (end : ℕ) → IsTrail l h needs key row rows end → IsTrail l k needs key row rows end

abbrev pub TrailsGrow : Type 0
TrailsGrow =
    (l : Layout) (h : TreeHeap) (needs : List Dependency) (key row : ℕ) (rows : List ℕ) (end next : ℕ) → IsTrail l h needs key row rows end →
    IsTrail l h needs key end (next ∷ []) next → IsTrail l h needs key row (rows ++ next ∷ []) next

-- once all needs are persistent, a flag that was loaded stands in word and shadow, and what was loaded frozen is the word
-- still, at rest
abbrev pub LoadedFlagsStay : Type 0
LoadedFlagsStay =
    (l : Layout) (free : List ℕ) (h : TreeHeap) → IsKept l free h → (needs : List Dependency) → ArePersistent h needs → (edge q : ℕ) →
    HasLoaded l h needs edge q → flag_of q ≡ true →
    (row_of (at_word h edge) ≡ row_of q) × (flag_of (at_word h edge) ≡ true) × (flag_of (at_shadow h edge) ≡ true)

abbrev pub LoadedFrozenRests : Type 0
LoadedFrozenRests =
    (l : Layout) (free : List ℕ) (h : TreeHeap) → IsKept l free h → (needs : List Dependency) → ArePersistent h needs → (edge q : ℕ) →
    HasLoaded l h needs edge q → frozen_of q ≡ true → (q ≡ at_word h edge) × IsAtRest h edge

-- the leaf at the end of a search answers
abbrev pub LeavesAnswer : Type 0
LeavesAnswer =
    (l : Layout) (free : List ℕ) (h : TreeHeap) → IsKept l free h → (needs : List Dependency) (key row : ℕ) → EndsAtLeaf l free h needs key row →
    IsAnswered l h needs key (row_of (at_word h (side_now l h key row)))

-- ---- how far a search has still to go

-- the rows of a view's tree are linked
abbrev pub TreesAreLinked : Type 0
TreesAreLinked =
    (l : Layout) (free : List ℕ) (h : TreeHeap) → IsKept l free h → (image : List ℕ) → IsView l free h image → (t : Tree) → IsLawfulTree l image t →
    (row : ℕ) → Contains (rows_in_tree t) row → IsLinked l h row

-- a search that is led comes to a leaf, over no more rows than there are
abbrev pub LedSearchesEnd : Type 0
LedSearchesEnd =
    (l : Layout) (free : List ℕ) (h : TreeHeap) → IsKept l free h → (image : List ℕ) → IsView l free h image → (needs : List Dependency) (key row : ℕ) →
    IsLinked l h row → IsInnerRow l h row → IsLed l free h needs key row → Takes l free h needs image →
    (many : ℕ) × Walks (reading l image) key row many × (many ≤ l.rows + 6)

-- a new search comes to a leaf over no more rows than the tree has
abbrev pub NewSearchesEnd : Type 0
NewSearchesEnd =
    (l : Layout) (free : List ℕ) (h : TreeHeap) → IsKept l free h → (image : List ℕ) → IsView l free h image → (t : Tree) → IsLawfulTree l image t → (key : ℕ) →
    (many : ℕ) × Walks (reading l image) key (row_of (slice_index image 4)) many × (many ≤ inners t)

-- the number is that which `walk` counts
abbrev pub WalksAreCounted : Type 0
WalksAreCounted = (V : Reading) (key most row many : ℕ) → Walks V key row many → many ≤ most → walk V key most row ≡ many

-- a freeze gives no view's tree more inner rows, and a swing leaves each of them fewer
abbrev pub FreezesAddNone : Type 0
FreezesAddNone =
    (l : Layout) (free : List ℕ) (h : TreeHeap) (edge to : ℕ) → IsKept l free h → IsFreeze l h edge to → (image now : List ℕ) (t u : Tree) →
    IsView l free h image → IsLawfulTree l image t → IsLawfulTree l now u → ((w : ℕ) → w ≢ edge → slice_index now w ≡ slice_index image w) →
    slice_index now edge ≡ to → inners u ≤ inners t

abbrev pub SwingsShorten : Type 0
SwingsShorten =
    (l : Layout) (free : List ℕ) (h : TreeHeap) (needs : List Dependency) (key row edge to end kept : ℕ) (rows : List ℕ) → IsKept l free h →
    IsSwing l free h needs key row edge to end kept rows → (image now : List ℕ) (t u : Tree) → IsView l free h image → IsLawfulTree l image t →
    IsLawfulTree l now u → ((w : ℕ) → w ≢ edge → slice_index now w ≡ slice_index image w) → slice_index now edge ≡ to → inners u + 1 ≤ inners t
