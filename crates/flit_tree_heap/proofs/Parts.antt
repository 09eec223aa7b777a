-- Parts of trees, and how they are put in, cut out and marked.
use Rattle.std.specs.Prelude.{◌≡◌, ◌≢◌, ◌⊎◌, ℕ, ◌+◌, ◌<◌, ◌≤◌, true}
use Rattle.flit_model.specs.Trees.{Tree}
use Rattle.flit_tree_heap.proofs.Growths.{IsTree, InTree, last, found, Outside}
use Rattle.flit_tree_heap.specs.Walks.{inners}
use Rattle.flit_tree_heap.proofs.Ways.{Drops, IsGone}
use Rattle.flit_tree_heap.specs.Edges.{left, right}
use Rattle.flit_tree_heap.specs.Routes.{Reading, side, IsOnRoute}

-- what comes of a tree where s' stands at w0 in place of s, whose keys are from low on and below high
pub record Put (V U : Reading) (w0 low high : ℕ) (s s' : Tree) (w lo hi : ℕ) (t : Tree) : Type 0 where
  pub tree : Tree
  pub is : IsTree U w lo hi tree
  pub gives : (j : ℕ) → lo ≤ j → j < hi → ((low ≤ j) × (j < high) × (found V j w t ≡ found V j w0 s) × (found U j w tree ≡ found U j w0 s')) ⊎
      (((j < low) ⊎ (high ≤ j)) × (found U j w tree ≡ found V j w t))
  -- an edge on a route stays on it, or it was in s; what is on it in s' is on it
  pub keeps : (j v : ℕ) → lo ≤ j → j < hi → IsOnRoute V j v w t → (IsOnRoute U j v w tree) ⊎ ((low ≤ j) × (j < high) × IsOnRoute V j v w0 s)
  pub lifts : (j v : ℕ) → low ≤ j → j < high → IsOnRoute U j v w0 s' → IsOnRoute U j v w tree
  -- so are its inner rows
  pub rows : (r : ℕ) → InTree r t → InTree r tree ⊎ InTree r s
  pub brings : (r : ℕ) → InTree r s' → InTree r tree
  pub count : inners tree + inners s ≡ inners t + inners s'

-- the part of a tree at an edge w0 on the route of k
pub record Focus (V U : Reading) (k w0 w lo hi : ℕ) (t : Tree) : Type 0 where
  pub part : Tree
  pub low : ℕ
  pub high : ℕ
  pub is : IsTree V w0 low high part
  pub outside : Outside V w0 low high
  pub above : low ≤ k
  pub below : k < high
  pub from : lo ≤ low
  pub to : high ≤ hi
  pub ends : last V k w t ≡ last V k w0 part
  pub put : (s : Tree) → IsTree U w0 low high s → Put V U w0 low high part s w lo hi t

-- what stands at g gives all that the tree gives, and has at least d inner rows less; the rows cut out are gone
pub record Spliced (V : Reading) (E : ℕ → Type 0) (g w lo hi : ℕ) (t : Tree) (d : ℕ) : Type 0 where
  pub part : Tree
  pub low : ℕ
  pub high : ℕ
  pub is : IsTree V g low high part
  pub from : lo ≤ low
  pub to : high ≤ hi
  pub gives : (j : ℕ) → found V j w t ≡ found V j g part
  pub drops : (j r : ℕ) → IsOnRoute V j (side V j r) w t → side V j r ≢ w → Drops V g part j r
  pub gone : (r : ℕ) → InTree r t → InTree r part ⊎ IsGone V E r
  pub fewer : inners part + d ≤ inners t

-- bits are set where the law of images allows it
pub record Bits (V U : Reading) : Type 0 where
  pub row : (w : ℕ) → U.row w ≡ V.row w
  pub key : (r : ℕ) → U.key r ≡ V.key r
  pub value : (r : ℕ) → U.value r ≡ V.value r
  pub rows : U.rows ≡ V.rows
  pub none : (w : ℕ) → V.row w ≡ 0 → (U.flag w ≡ V.flag w) × (U.frozen w ≡ V.frozen w)
  pub flag_kept : (w : ℕ) → V.flag w ≡ true → U.flag w ≡ true
  pub frozen_kept : (w : ℕ) → V.frozen w ≡ true → U.frozen w ≡ true
  pub flag_new : (w : ℕ) → U.flag w ≡ true → (V.flag w ≡ true) ⊎ ((V.row (left (V.row w)) ≡ 0) × (V.row w ≢ 3))
  pub left_frozen : (r : ℕ) → 1 ≤ r → U.frozen (left r) ≡ true → (V.frozen (left r) ≡ true) ⊎ (U.flag (right r) ≡ true)
  pub right_frozen : (r : ℕ) → 1 ≤ r → U.frozen (right r) ≡ true → (V.frozen (right r) ≡ true) ⊎ (U.flag (left r) ≡ true)
