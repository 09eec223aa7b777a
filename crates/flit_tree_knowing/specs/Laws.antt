-- What a search knows lasts, and what it adds by a load.
use Rattle.std.specs.Prelude.{◌≡◌, ℕ, ◌<◌, ◌≤◌, List, length, Option}
use Rattle.flit_words.specs.declared.layouts.Layout.{Layout}
use Rattle.flit_words.specs.Layouts.{above_keys}
use Rattle.flit_words.specs.Words.{version_of}
use Rattle.flit_runs.specs.Workings.{Dependency}
use Rattle.flit_runs.specs.Soundness.{Needs}
use Rattle.flit_crew.specs.Heaps.{at_word}
use Rattle.flit_tree_heap.specs.Edges.{row_of, IsPlain}
use Rattle.flit_tree_heap.specs.Views.{TreeHeap, IsLinked, IsInnerRow, IsLed}
use Rattle.flit_tree_heap.specs.Kept.{IsKept}
use Rattle.flit_tree_heap.specs.Later.{IsLater}
use Rattle.flit_tree_heap.specs.Exchanges.{side_now, ArePersistent}
use Rattle.flit_tree_heap.specs.Searches.{HasLoaded}
use Rattle.flit_tree_knowing.specs.Positions.{Had, Saw}
use Rattle.flit_tree_knowing.specs.Spots.{IsSpot, IsWay, Reached}

-- while others change the heap
pub record KnowledgeLasts (l : Layout) (free : List ℕ) (h k : TreeHeap) (needs : List Dependency) (key : ℕ) : Type 0 where
  pub spots : (edge x : ℕ) → IsSpot l free h needs key edge x → IsSpot l free k needs key edge x
  pub ways : (edge x end : ℕ) → IsWay l free h needs key edge x end → IsWay l free k needs key edge x end
  pub rows : (first x : ℕ) → first ≤ length h.progress.settled → IsLinked l h (row_of x) → Reached l free h needs first key x →
      Reached l free k needs first key x
  pub seen : (first : ℕ) (o : Option ℕ) → first ≤ length h.progress.settled → Saw h needs first key o → Saw k needs first key o

abbrev pub AllLasts : Type 0
AllLasts = (l : Layout) (free : List ℕ) (who : Option ℕ) (h k : TreeHeap) → IsKept l free h → IsKept l free k → IsLater l free who h k →
    (needs : List Dependency) (key : ℕ) → key < above_keys 1 → KnowledgeLasts l free h k needs key

-- the edge of a row that leads a search was loaded, and is depended on
abbrev pub LoadsReach : Type 0
LoadsReach = (l : Layout) (free : List ℕ) (h : TreeHeap) → IsKept l free h → (needs : List Dependency) (first key row q : ℕ) → key < above_keys 0 →
    first ≤ length h.progress.settled → IsLinked l h row → IsInnerRow l h row → IsLed l free h needs key row → q ≡ at_word h (side_now l h key row) →
    Needs needs (side_now l h key row) (version_of q) → HasLoaded l h needs (side_now l h key row) q × Reached l free h needs first key q

-- word 4 has no bits
abbrev pub TopIsPlain : Type 0
TopIsPlain = (l : Layout) (free : List ℕ) (h : TreeHeap) → IsKept l free h → IsPlain (at_word h 4)

-- what was seen has a position, once all needs are persistent
abbrev pub SeenIsHad : Type 0
SeenIsHad = (l : Layout) (free : List ℕ) (h : TreeHeap) → IsKept l free h → (needs : List Dependency) → ArePersistent h needs → (first key : ℕ) (o : Option ℕ) →
    Saw h needs first key o → Had h first key o
