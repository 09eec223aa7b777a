-- What is left of the tree where rows are cut out, and what one change of an edge makes of a lawful image.
use Rattle.std.proofs.Common.{◌≡◌, ◌≢◌, ◌⊎◌, inl, ℕ, ◌+◌, ◌<◌, ◌≤◌, Option, true}
use Rattle.flit_model.specs.Trees.{Tree}
use Rattle.flit_tree_heap.proofs.Growths.{InTree, IsLawful, found}
use Rattle.flit_tree_heap.specs.Walks.{inners}
use Rattle.flit_tree_heap.specs.Edges.{left, right, other}
use Rattle.flit_tree_heap.specs.Routes.{Reading, side, IsOnRoute, Leads}

-- an edge of a row that is cut out: it is frozen, or it is flagged and the other one is frozen
abbrev pub IsCut : Reading → ℕ → Type 0
IsCut V w = (V.frozen w ≡ true) ⊎ ((V.flag w ≡ true) × (V.frozen (other w) ≡ true))

-- the same for a part that hangs at g
pub data Drops (V : Reading) (g : ℕ) (part : Tree) (k : ℕ) : ℕ → Type 0 where
  below : (r : ℕ) → IsOnRoute V k (side V k r) g part → side V k r ≢ g → Drops V g part k r
  stops : (r : ℕ) → IsCut V (side V k r) → V.row (left (V.row (side V k r))) ≡ 0 → Drops V g part k r
  over : (r s : ℕ) → IsCut V (side V k r) → V.row (side V k r) ≡ s → Drops V g part k s → Drops V g part k r

-- one edge of a row is frozen, the other one flagged
abbrev pub IsGone : Reading → (ℕ → Type 0) → ℕ → Type 0
IsGone V E r = ((V.frozen (left r) ≡ true) × (V.flag (right r) ≡ true) × E (left r)) ⊎ ((V.frozen (right r) ≡ true) × (V.flag (left r) ≡ true) × E (right r))

-- a lawful image comes of a lawful one, where k has now x, and each other key what it had; who was led is led
pub record Becomes (V U : Reading) (t : Tree) (k : ℕ) (x : Option ℕ) : Type 0 where
  pub tree : Tree
  pub lawful : IsLawful U tree
  pub now : found U k 4 tree ≡ x
  pub others : (j : ℕ) → j < 4294967294 → j ≢ k → found U j 4 tree ≡ found V j 4 t
  pub leads : (j r : ℕ) → j < 4294967294 → Leads V t j r → Leads U tree j r
  pub routes : (j v : ℕ) → j < 4294967294 → IsOnRoute V j v 4 t → IsOnRoute U j v 4 tree
  pub rows : (r : ℕ) → InTree r t → InTree r tree
  pub count : inners tree ≤ inners t + 1

-- the same where each key has what it had, and there are at least d inner rows less, which are gone
pub record Remains (V U : Reading) (E : ℕ → Type 0) (t : Tree) (d : ℕ) : Type 0 where
  pub tree : Tree
  pub lawful : IsLawful U tree
  pub same : (j : ℕ) → j < 4294967294 → found U j 4 tree ≡ found V j 4 t
  pub leads : (j r : ℕ) → j < 4294967294 → Leads V t j r → Leads U tree j r
  pub routes : (j v : ℕ) → j < 4294967294 → IsOnRoute V j v 4 t → IsOnRoute U j v 4 tree ⊎ IsCut V v
  pub rows : (r : ℕ) → InTree r t → InTree r tree ⊎ IsGone V E r
  pub count : inners tree + d ≤ inners t

-- the two in one: a lawful image comes of a lawful one, where only some keys get another value; who was led is led; an
-- edge stays on a route, unless it is cut out; and an inner row stays, or it is lost
pub record Turns (V U : Reading) (t : Tree) (Changed Lost : ℕ → Type 0) : Type 0 where
  pub tree : Tree
  pub lawful : IsLawful U tree
  pub others : (j : ℕ) → j < 4294967294 → (Changed j → ⊥) → found U j 4 tree ≡ found V j 4 t
  pub leads : (j r : ℕ) → j < 4294967294 → Leads V t j r → Leads U tree j r
  pub routes : (j v : ℕ) → j < 4294967294 → IsOnRoute V j v 4 t → IsOnRoute U j v 4 tree ⊎ IsCut V v
  pub rows : (r : ℕ) → InTree r t → InTree r tree ⊎ Lost r

abbrev pub becomes_turns : {V U : Reading} {t : Tree} {k : ℕ} {x : Option ℕ} → Becomes V U t k x → (Changed : ℕ → Type 0) →
    ((j : ℕ) → (Changed j → ⊥) → j ≢ k) → (Lost : ℕ → Type 0) → Turns V U t Changed Lost
becomes_turns B Changed apart Lost = record {
  tree = B.tree;
  lawful = B.lawful;
  others = λ j b n. B.others j b (apart j n);
  leads = B.leads;
  routes = λ j v b o. inl (B.routes j v b o);
  rows = λ r i. inl (B.rows r i);
}

abbrev pub remains_turns : {V U : Reading} {E : ℕ → Type 0} {t : Tree} {d : ℕ} → Remains V U E t d → (Changed : ℕ → Type 0) → Turns V U t Changed (IsGone V E)
remains_turns R Changed = record {
  tree = R.tree;
  lawful = R.lawful;
  others = λ j b n. R.same j b;
  leads = R.leads;
  routes = R.routes;
  rows = R.rows;
}
