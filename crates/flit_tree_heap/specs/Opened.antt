-- How a heap begins.
use Rattle.std.specs.Prelude.{[], map}
use Rattle.std.specs.List.{range_with_len}
use Rattle.std.specs.FinMap as fin
use Rattle.flit_words.specs.declared.layouts.Layout.{Layout}
use Rattle.flit_words.specs.Layouts.{first_row_of}
use Rattle.flit_words.specs.Words.{bare_of}
use Rattle.flit_model.specs.States.{fresh_words}
use Rattle.flit_model.specs.Settling.{nothing_made}
use Rattle.flit_structure.specs.Moments.{Opening}
use Rattle.flit_structure.specs.Lawful.{IsOpening}
use Rattle.flit_tree_heap.specs.Views.{TreeHeap, IsTreeLayout}
use Rattle.flit_tree_heap.specs.Kept.{IsKept}

-- the heap of the first moment of a run: the words of the start image are persistent, and nothing is made or linked
abbrev pub first_heap : Opening → TreeHeap
first_heap o = record { opening = o; words = map bare_of o.words; shadows = o.words; progress = nothing_made; given = []; ghost = tt }

-- Each lawful image may be opened: with flagged leaves, frozen edges, and rows one behind the other that are to be cut off.
abbrev pub OpeningsAreKept : Type 0
OpeningsAreKept = (l : Layout) (o : Opening) → IsTreeLayout l → IsOpening l o → IsKept l o.free (first_heap o)

-- the fresh words, with the empty map and all rows free
abbrev pub fresh_opening : Layout → Opening
fresh_opening l = record { words = fresh_words l; content = fin.empty; free = range_with_len (first_row_of l.kind) l.rows }

abbrev pub FreshHeapIsKept : Type 0
FreshHeapIsKept = (l : Layout) → IsTreeLayout l → IsKept l (range_with_len (first_row_of l.kind) l.rows) (first_heap (fresh_opening l))
