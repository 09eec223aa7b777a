-- Where a search stands lasts while others change the heap.
use Rattle.std.proofs.Common.{ℕ, ◌<◌, ◌≤◌, List, length, Option, ◌∙◌, inl, inr}
use Rattle.flit_words.specs.declared.layouts.Layout.{Layout}
use Rattle.flit_words.specs.Layouts.{above_keys}
use Rattle.flit_runs.specs.Workings.{Dependency}
use Rattle.flit_tree_heap.specs.Edges.{row_of}
use Rattle.flit_tree_heap.specs.Views.{TreeHeap, IsLinked}
use Rattle.flit_tree_heap.specs.Kept.{IsKept}
use Rattle.flit_tree_heap.specs.Later.{IsLater}
use Rattle.flit_tree_heap.proofs.Searching.{linked_on, inner_on, loaded_on, side_same, trail_on}
use Rattle.flit_tree_knowing.specs.Spots.{IsSpot, IsWay, IsTopOrWay, Reached}
use Rattle.flit_tree_knowing.specs.Laws.{KnowledgeLasts}
use Rattle.flit_tree_knowing.proofs.Positions.{saw_lasts, tells_lasts}

module _ (l : Layout) (free : List ℕ) (who : Option ℕ) (h k : TreeHeap) (K : IsKept l free h) (N : IsKept l free k) (L : IsLater l free who h k)
    (needs : List Dependency) (key : ℕ) (below : key < above_keys 1) where
  abbrev pub spot_lasts : (edge x : ℕ) → IsSpot l free h needs key edge x → IsSpot l free k needs key edge x
  spot_lasts edge x s = record {
    row = s.row;
    linked = linked_on l free who h k K N L s.row s.linked;
    inner = inner_on l free who h k K N L s.row s.linked s.inner;
    side = side_same l free who h k K N L key s.row s.linked ∙ s.side;
    led = L.led needs key s.row below s.led;
    loaded = loaded_on l free who h k K N L needs edge x s.loaded;
  }

  pub way_lasts : (edge x end : ℕ) → IsWay l free h needs key edge x end → IsWay l free k needs key edge x end
  way_lasts edge x end w = record {
    spot = spot_lasts edge x w.spot;
    plain = w.plain;
    rows = w.rows;
    trail = trail_on l free who h k K N L needs key (row_of x) w.rows end w.trail;
  }

  pub top_lasts : (ancestor a edge x row : ℕ) → IsTopOrWay l free h needs key ancestor a edge x row → IsTopOrWay l free k needs key ancestor a edge x row
  top_lasts ancestor a edge x row t = elim t [ inl y ↦ inl y | inr w ↦ inr (way_lasts ancestor a row w) ]

  pub reached_lasts : (first x : ℕ) → first ≤ length h.progress.settled → IsLinked l h (row_of x) → Reached l free h needs first key x →
      Reached l free k needs first key x
  reached_lasts first x early i r = elim r [
    | inl f ↦ inl ((L.rows (row_of x) i).leaf f.0, λ p. tells_lasts l free who h k K N L needs first key (row_of x) early i (f.1 p))
    | inr f ↦ inr (inner_on l free who h k K N L (row_of x) i f.0, L.led needs key (row_of x) below f.1)
  ]

pub lasts : (l : Layout) (free : List ℕ) (who : Option ℕ) (h k : TreeHeap) → IsKept l free h → IsKept l free k → IsLater l free who h k →
    (needs : List Dependency) (key : ℕ) → key < above_keys 1 → KnowledgeLasts l free h k needs key
lasts l free who h k K N L needs key below = record {
  spots = spot_lasts l free who h k K N L needs key below;
  ways = way_lasts l free who h k K N L needs key below;
  rows = reached_lasts l free who h k K N L needs key below;
  seen = λ first o early s. saw_lasts l free who h k K N L needs first key o early s;
}
