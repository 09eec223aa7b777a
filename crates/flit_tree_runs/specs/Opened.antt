-- The tree that a run is opened with, and how many items each worker of a run has.
use Rattle.std.specs.Prelude.{◌≡◌, ℕ, List, length, map}
use Rattle.flit_words.specs.declared.layouts.Layout.{Layout}
use Rattle.flit_sched.specs.Runs.{Part, Run}
use Rattle.flit_tree.specs.declared.trees.Tree.{Tree as A_tree}

-- the tree of this layout, this placement and these rows
pub record IsTreeOf {P : Type 0} (s : A_tree P) (l : Layout) (place_at : P) (rows : List ℕ) : Type 0 where
  pub layout : s.layout ≡ l
  pub place : s.place ≡ place_at
  pub pool : s.pool ≡ rows

-- how many items a worker has, from the beginning
abbrev pub items_of : {Op : Type 0} → Part Op → ℕ
items_of p = length p.items

abbrev pub counts_of : {Op : Type 0} → Run Op → List ℕ
counts_of r = map (λ p. items_of p) r.parts
