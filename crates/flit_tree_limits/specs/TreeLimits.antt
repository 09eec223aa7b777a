-- How many events a call of the tree has to go: the rest of its seek, by the inner rows that the words reach on its key's
-- route; and one more seek for each inner row, and where an edge isn't what the call has loaded, or a swing is lost, one more.
use Rattle.std.specs.Prelude.{ℕ, zero, suc, ◌≡◌, ◌+◌, ◌*◌, ◌<◌, ◌==◌, ◌&&◌, Bool, true, false, List, None, if◌then◌else◌, slice_index}
use Rattle.flit_words.specs.declared.layouts.Layout.{Layout}
use Rattle.flit_words.specs.Layouts.{words_of}
use Rattle.flit_place.specs.Tags.{Place, IsSlot}
use Rattle.flit_pv.specs.Exchanges.{HeldExchange}
use Rattle.flit_structure.specs.Moments.{Opening}
use Rattle.flit_structure.specs.Meanings.{key_of}
use Rattle.flit_structure.specs.Lawful.{IsOpening}
use Rattle.flit_crew.specs.Machines.{Part, ToRead, HasRead, ToWin, HasWon, HasWritten, HasLost, Other, load_part, exchange_part}
use Rattle.flit_crew_bounds.specs.Bounding.{Limits}
use Rattle.flit_crew_bounds.specs.Winning.{would_win, wins_now}
use Rattle.flit_tree_heap.specs.Edges.{left, right, row_of}
use Rattle.flit_tree_heap.specs.Routes.{Reading, reading}
use Rattle.flit_tree_heap.specs.Walks.{walk}
use Rattle.flit_tree_steps.specs.declared.operations.EdgeWord.{EdgeWord}
use Rattle.flit_tree_steps.specs.declared.operations.Path.{Path}
use Rattle.flit_tree_steps.specs.declared.operations.CleanUp.{CleanUp}
use Rattle.flit_tree_steps.specs.declared.operations.CleanUp.TheVariants.{Own, Help}
use Rattle.flit_tree_steps.specs.Operations.{At, Root, Key, Edge, Rows, LeafWords, LeafValue, InnerWords, Link, Flag, Sibling, Freeze, Swing, Value, Ends, Rests, HeldOp}

-- ---- rows that are reached

-- how many inner rows there are from a row on, where no way there has more than so many
abbrev pub inners_from : Reading → ℕ → ℕ → ℕ
inners_from V zero row = 0
inners_from V (suc most) row =
    if V.row (left row) == 0 then 0 else suc (inners_from V most (V.row (left row)) + inners_from V most (V.row (right row)))

-- no way through the words has more inner rows than this
abbrev pub most_way : Layout → ℕ
most_way l = l.rows + 6

-- the inner rows of the words; and those on a key's route from a row on
unfoldable pub all_inners : Layout → List ℕ → ℕ
all_inners l words = inners_from (reading l words) (most_way l) (row_of (slice_index words 4))

unfoldable pub way_from : Layout → List ℕ → ℕ → ℕ → ℕ
way_from l words key row = walk (reading l words) key (most_way l) row

-- ---- what follows

-- behind a seek's leaf: two draws, a leaf and its value, an inner row, and a link; so much has a remove with its clean-up, too
abbrev pub most_end : ℕ
most_end = 27

-- a whole seek over so many inner rows, and what follows it; each row costs two loads
abbrev pub whole : ℕ → ℕ
whole inners = 6 * inners + 36

-- a seek for each inner row, since each removal that it comes upon takes one away; and one more where an exchange is lost
abbrev pub seeks_if : Bool → ℕ → ℕ
seeks_if true inners = inners * whole inners
seeks_if false inners = (inners + 1) * whole inners

module _ (l : Layout) (p : Place) (key : ℕ) (words : List ℕ) where
  abbrev pub still : EdgeWord → Bool
  still x = would_win p words x.word x.raw

  abbrev pub again : Bool → ℕ
  again wins = seeks_if wins (all_inners l words)

  abbrev pub way : ℕ → ℕ
  way raw = way_from l words key (row_of raw)

  -- the rest of the seek from a row on that an edge leads to
  abbrev pub rest_below : ℕ → ℕ
  rest_below raw = 6 * (way raw + 1)

  abbrev pub root_behind : Part → ℕ
  root_behind (ToRead word) = rest_below (slice_index words word) + most_end + again true
  root_behind (HasRead word raw) = rest_below raw + most_end + again (would_win p words word raw)
  root_behind ToWin = 0
  root_behind HasWon = 0
  root_behind HasWritten = 0
  root_behind (HasLost found) = 0
  root_behind Other = 0

  abbrev pub edge_rest : ℕ → ℕ
  edge_rest raw = if row_of raw == 0 then 0 else rest_below raw

  abbrev pub edge_behind : Path → Part → ℕ
  edge_behind path (ToRead word) = 6 * way path.edge.raw + most_end + again (still path.edge && still path.ancestor)
  edge_behind path (HasRead word raw) = edge_rest raw + most_end + again (still path.edge && (still path.ancestor && would_win p words word raw))
  edge_behind path ToWin = 0
  edge_behind path HasWon = 0
  edge_behind path HasWritten = 0
  edge_behind path (HasLost found) = 0
  edge_behind path Other = 0

  -- an exchange that is lost begins a seek again
  abbrev pub unless_lost : ℕ → ℕ → Part → ℕ
  unless_lost before behind (ToRead word) = 0
  unless_lost before behind (HasRead word raw) = 0
  unless_lost before behind ToWin = before
  unless_lost before behind HasWon = behind
  unless_lost before behind HasWritten = behind
  unless_lost before behind (HasLost found) = again false
  unless_lost before behind Other = 0

  -- behind its own clean-up a call ends, whatever that comes to; behind a help the seek begins again
  abbrev pub sibling_again : Path → Part → ℕ
  sibling_again path (ToRead word) = again (still path.ancestor)
  sibling_again path (HasRead word raw) = again (still path.ancestor && would_win p words word raw)
  sibling_again path ToWin = 0
  sibling_again path HasWon = 0
  sibling_again path HasWritten = 0
  sibling_again path (HasLost found) = 0
  sibling_again path Other = 0

  abbrev pub sibling_behind : CleanUp → Path → Part → ℕ
  sibling_behind Own path part = 8
  sibling_behind Help path part = 8 + sibling_again path part

  abbrev pub freeze_behind : CleanUp → Path → HeldExchange → ℕ
  freeze_behind Own path m = 4
  freeze_behind Help path m =
      unless_lost (4 + again (still path.ancestor && wins_now p words m)) (4 + again (still path.ancestor)) (exchange_part m.at)

  abbrev pub swing_behind : CleanUp → HeldExchange → ℕ
  swing_behind Own m = 0
  swing_behind Help m = unless_lost (again (wins_now p words m)) (again false) (exchange_part m.at)

  abbrev pub behind_at : Path → At → ℕ
  behind_at path (Root m) = root_behind (load_part m.at m.word)
  behind_at path (Key m) = 3 + (6 * way path.edge.raw + most_end + again (still path.edge && still path.ancestor))
  behind_at path (Edge m) = edge_behind path (load_part m.at m.word)
  behind_at path (Rows m) = 25 + again (still path.edge)
  behind_at path (LeafWords m) = 16 + again (still path.edge)
  behind_at path (LeafValue m) = 13 + again (still path.edge)
  behind_at path (InnerWords m) = 4 + again (still path.edge)
  behind_at path (Link m) = unless_lost (again (wins_now p words m)) 0 (exchange_part m.at)
  behind_at path (Flag m) = unless_lost (11 + again (wins_now p words m)) 11 (exchange_part m.at)
  behind_at path (Sibling c m) = sibling_behind c path (load_part m.at m.word)
  behind_at path (Freeze c m) = freeze_behind c path m
  behind_at path (Swing c m) = swing_behind c m
  behind_at path (Value m) = 0
  behind_at path (Ends m) = 0
  behind_at path (Rests hand) = 0

-- the most that may follow the machine of a call, as the words with their tag bits stand now
abbrev pub tree_behind : Layout → Place → List ℕ → HeldOp → ℕ
tree_behind l p words op = behind_at l p (key_of op.call) words op.path op.at

-- it opens at each lawful image, with free rows of it as its pool; each word has one of the layout's slots
pub record Opens (l : Layout) (p : Place) (free : List ℕ) (o : Opening) : Type 0 where
  pub lawful : IsOpening l o
  pub pool : free ≡ o.free
  pub slots : (word : ℕ) → word < words_of l → IsSlot p.counted l.slots (p.slot word)

-- the bounds of a tree: no bound is claimed of the events of a try
abbrev pub tree_limits : Layout → Place → List ℕ → Limits HeldOp
tree_limits l p free = record {
  opens = λ o. Opens l p free o;
  behind = λ words op. tree_behind l p words op;
  bound = None;
  allowed = λ view op. 0;
}
