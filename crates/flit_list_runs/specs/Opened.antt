-- The list that a run is opened with, and how many items each worker of a run has.
use Rattle.std.specs.Prelude.{◌≡◌, ℕ, List, length, map}
use Rattle.flit_words.specs.declared.layouts.Layout.{Layout}
use Rattle.flit_sched.specs.Runs.{Part, Run}
use Rattle.flit_list.specs.declared.lists.List.{List as A_list}

-- the list or hash table of this layout, this placement and these rows
pub record IsListOf {P : Type 0} (s : A_list P) (l : Layout) (place_at : P) (rows : List ℕ) : Type 0 where
  pub layout : s.layout ≡ l
  pub place : s.place ≡ place_at
  pub pool : s.pool ≡ rows

abbrev pub items_of : {Op : Type 0} → Part Op → ℕ
items_of p = length p.items

abbrev pub counts_of : {Op : Type 0} → Run Op → List ℕ
counts_of r = map (λ p. items_of p) r.parts
