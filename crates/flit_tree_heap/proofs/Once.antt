-- The rows of a tree, and leaves that are found by their keys.
use Rattle.std.proofs.Common.{◌≡◌, ◌≢◌, ◌⊎◌, ℕ, ◌<◌, ◌≤◌, true, false, Some, inl, inr, refl, sym, ap, subst, ◌∙◌, arith}
use Rattle.std.proofs.lemmas.Bool.{cases_eq, cases_lt, cases_Bool}
use Rattle.flit_model.specs.Trees.{Tree, Leaf, Inner}
use Rattle.flit_tree_heap.proofs.Bits.{said-some, said-other, said-flagged}
use Rattle.flit_tree_heap.proofs.Growths.{IsRow, LeafAt, IsTree, IsLawful, found}
use Rattle.flit_tree_heap.proofs.Moving.{root-row, last-left, last-right}
use Rattle.flit_tree_heap.specs.Edges.{left, right}
use Rattle.flit_tree_heap.specs.Routes.{Reading}

-- the rows of a tree have what its root has, where edges lead from rows that have it to rows that have it
pub all_rows : (V : Reading) (G : ℕ → Type 0) → ((r : ℕ) → G r → 1 ≤ V.row (left r) → G (V.row (left r)) × G (V.row (right r))) →
    (w lo hi : ℕ) (t : Tree) → IsTree V w lo hi t → G (V.row w) → (r : ℕ) → IsRow r t → G r
all_rows V G c w lo hi (Leaf q) h g r e = subst G (h.named ∙ e) g
all_rows V G c w lo hi (Inner q a b) h g r (inl e) = subst G (h.0.named ∙ e) g
all_rows V G c w lo hi (Inner q a b) h g r (inr (inl i)) = all_rows V G c (left q) lo (V.key q) a h.1
    (c q (subst G h.0.named g) (root-row V (left q) lo (V.key q) a h.1)).0 r i
all_rows V G c w lo hi (Inner q a b) h g r (inr (inr i)) = all_rows V G c (right q) (V.key q) hi b h.2
    (c q (subst G h.0.named g) (root-row V (left q) lo (V.key q) a h.1)).1 r i

-- ---- leaves

leaf-range : (V : Reading) (v r w lo hi : ℕ) (t : Tree) → IsTree V w lo hi t → LeafAt V v r w t → (lo ≤ V.key r) × (V.key r < hi)
leaf-range V v r w lo hi (Leaf q) h e = rw (← e.1) (h.low, h.high)
leaf-range V v r w lo hi (Inner q a b) h (inl i) = let g = leaf-range V v r (left q) lo (V.key q) a h.1 i in (g.0, omega (arith, g.1, h.0.high))
leaf-range V v r w lo hi (Inner q a b) h (inr i) = let g = leaf-range V v r (right q) (V.key q) hi b h.2 i in (omega (arith, g.0, h.0.low), g.1)

pub found-leaf : (V : Reading) (k v r w lo hi : ℕ) (t : Tree) → IsTree V w lo hi t → LeafAt V v r w t → V.key r ≡ k → V.flag v ≡ false →
    found V k w t ≡ Some (V.value r)
found-leaf V k v r w lo hi (Leaf q) h e x f =
    let n : V.row w ≡ r = h.named ∙ e.1 in
    said-some V k w (ap V.key n ∙ x) (ap V.flag e.0 ∙ f) ∙ ap Some (ap V.value n)
found-leaf V k v r w lo hi (Inner q a b) h (inl i) x f =
    let g = leaf-range V v r (left q) lo (V.key q) a h.1 i in
    rw (last-left V k w q a b (omega (arith, g.1))) (found-leaf V k v r (left q) lo (V.key q) a h.1 i x f)
found-leaf V k v r w lo hi (Inner q a b) h (inr i) x f =
    let g = leaf-range V v r (right q) (V.key q) hi b h.2 i in
    rw (last-right V k w q a b (omega (arith, g.0))) (found-leaf V k v r (right q) (V.key q) hi b h.2 i x f)

pub leaf-found : (V : Reading) (k x w lo hi : ℕ) (t : Tree) → IsTree V w lo hi t → found V k w t ≡ Some x →
    (v : ℕ) × (r : ℕ) × LeafAt V v r w t × (V.key r ≡ k) × (V.flag v ≡ false) × (V.value r ≡ x)
leaf-found V k x w lo hi (Leaf q) h e = elim (cases_eq (V.key (V.row w)) k) [
  | inl y ↦ elim (cases_Bool (V.flag w)) [
    | inl f ↦ let z = said-flagged V k w f in absurd cc
    | inr f ↦ let z = said-some V k w y f in let n = h.named in (w, q, (refl, refl), sym (ap V.key n) ∙ y, f, cc)
  ]
  | inr y ↦ let z = said-other V k w y in absurd cc
]
leaf-found V k x w lo hi (Inner q a b) h e = elim (cases_lt k (V.key q)) [
  | inl c ↦ let f = leaf-found V k x (left q) lo (V.key q) a h.1 (rw (last-left V k w q a b c) at e) in (f.0, f.1, inl f.2, f.3, f.4, f.5)
  | inr c ↦ let f = leaf-found V k x (right q) (V.key q) hi b h.2 (rw (last-right V k w q a b c) at e) in (f.0, f.1, inr f.2, f.3, f.4, f.5)
]

-- ---- row 3

row-leaf : (V : Reading) (r w lo hi : ℕ) (t : Tree) → IsTree V w lo hi t → IsRow r t → V.row (left r) ≡ 0 →
    (v : ℕ) × LeafAt V v r w t × (V.flag v ≡ true → r ≢ 3)
row-leaf V r w lo hi (Leaf q) h i e = (w, (refl, i), rw (← i) h.stays)
row-leaf V r w lo hi (Inner q a b) h (inl i) e = absurd (omega (arith, root-row V (left q) lo (V.key q) a h.1, rw (← i) at e))
row-leaf V r w lo hi (Inner q a b) h (inr (inl i)) e = let f = row-leaf V r (left q) lo (V.key q) a h.1 i e in (f.0, inl f.1, f.2)
row-leaf V r w lo hi (Inner q a b) h (inr (inr i)) e = let f = row-leaf V r (right q) (V.key q) hi b h.2 i e in (f.0, inr f.1, f.2)

leaf-row : (V : Reading) (v r w lo hi : ℕ) (t : Tree) → IsTree V w lo hi t → LeafAt V v r w t → IsRow r t × ((r ≡ 3) ⊎ (V.key r < 4294967293))
leaf-row V v r w lo hi (Leaf q) h e = (e.1, rw (← e.1) h.below)
leaf-row V v r w lo hi (Inner q a b) h (inl i) = let f = leaf-row V v r (left q) lo (V.key q) a h.1 i in (inr (inl f.0), f.1)
leaf-row V v r w lo hi (Inner q a b) h (inr i) = let f = leaf-row V v r (right q) (V.key q) hi b h.2 i in (inr (inr f.0), f.1)

-- a lawful image is one whose tree has row 3
pub lawful-from : (V : Reading) (t : Tree) → IsTree V 4 0 4294967294 t → V.key 2 ≡ 4294967294 → V.frozen 4 ≡ false → V.key 3 ≡ 4294967293 → V.row (left 3) ≡ 0 →
    IsRow 3 t → IsLawful V t
lawful-from V t h two top key end i = record {
  is = h;
  two = two;
  top = top;
  three = let f = row-leaf V 3 4 0 4294967294 t h i end in found-leaf V 4294967293 f.0 3 4 0 4294967294 t h f.1 key
      (elim (cases_Bool (V.flag f.0)) [ inl e ↦ absurd (f.2 e refl) | inr e ↦ e ]);
}

pub lawful-three : (V : Reading) (t : Tree) → IsLawful V t → IsRow 3 t
lawful-three V t h =
    let f = leaf-found V 4294967293 (V.value 3) 4 0 4294967294 t h.is h.three in
    let g = leaf-row V f.0 f.1 4 0 4294967294 t h.is f.2 in
    elim g.1 [ inl e ↦ rw e at g.0 | inr e ↦ absurd (omega (arith, f.3)) ]
