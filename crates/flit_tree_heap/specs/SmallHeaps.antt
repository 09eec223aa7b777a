-- Four small heaps, in each of which one of the exchanges can be won: what an exchange asks can be met.
use Rattle.std.specs.Prelude.{ℕ, List, [], ◌∷◌}
use Rattle.flit_words.specs.declared.layouts.Layout.{Layout}
use Rattle.flit_words.specs.declared.layouts.Kind.TheVariants.{Tree as Tree_kind}
use Rattle.flit_words.specs.Layouts.{layout_without_values}
use Rattle.flit_words.specs.Words.{untagged}
use Rattle.flit_model.specs.Trees.{Leaf, Inner, tree_map}
use Rattle.flit_runs.specs.Workings.{dependency}
use Rattle.flit_tree_heap.specs.Exchanges.{IsFlag, IsFreeze, IsLink, IsSwing}
use Rattle.flit_tree_heap.specs.Kept.{IsKept}
use Rattle.flit_tree_heap.specs.Opened.{first_heap}
use Rattle.flit_tree_heap.specs.Views.{TreeHeap}

-- two rows beside the fixed ones: row 6, with key 9, and row 7, whose edges lead to rows 6 and 3
abbrev pub small_layout : Layout
small_layout = layout_without_values Tree_kind 0 2 0 1 1

abbrev pub small_words : ℕ → ℕ → ℕ → List ℕ
small_words top left_edge right_edge =
    4294967295 ∷ 8 ∷ 20 ∷ 4294967294 ∷ top ∷ 16 ∷ 4294967293 ∷ 0 ∷ 0 ∷ 4294967294 ∷ 0 ∷ 0 ∷ 4294967295 ∷ 0 ∷ 0
    ∷ 9 ∷ 0 ∷ 0 ∷ 4294967293 ∷ left_edge ∷ right_edge ∷ []

-- word 4 leads to row 3, and rows 6 and 7 are stored; or it leads to row 7, and these are the edges of row 7
abbrev pub stored_heap : TreeHeap
stored_heap =
    first_heap (record { words = small_words 12 24 12; content = tree_map small_layout (small_words 12 24 12) (Leaf 3); free = 6 ∷ 7 ∷ [] })

abbrev pub linked_heap : ℕ → ℕ → TreeHeap
linked_heap a b =
    first_heap (record {
      words = small_words 28 a b;
      content = tree_map small_layout (small_words 28 a b) (Inner 7 (Leaf 6) (Leaf 3));
      free = [];
    })

-- key 9 is linked; it is flagged; the other edge is frozen; and row 7 is cut off
pub record ExchangesCanBeWon : Type 0 where
  pub stored : IsKept small_layout (6 ∷ 7 ∷ []) stored_heap
  pub link : IsLink small_layout (6 ∷ 7 ∷ []) stored_heap [] 9 0 2 4 (untagged 1 28) 7 6 (7 ∷ 6 ∷ [])
  pub plain : IsKept small_layout [] (linked_heap 24 12)
  pub flag : IsFlag small_layout [] (linked_heap 24 12) (dependency 4 0 ∷ []) 9 7 19 (untagged 1 25)
  pub flagged : IsKept small_layout [] (linked_heap 25 12)
  pub freeze : IsFreeze small_layout (linked_heap 25 12) 20 (untagged 1 14)
  pub frozen : IsKept small_layout [] (linked_heap 25 14)
  pub swing : IsSwing small_layout [] (linked_heap 25 14) (dependency 20 0 ∷ []) 9 2 4 (untagged 1 12) 7 20 []
