-- A view has one tree below an edge.
use Rattle.std.proofs.Common.{◌≡◌, ◌⊎◌, ℕ, inl, inr, true, sym, ap, ◌∙◌, arith}
use Rattle.flit_model.specs.Trees.{Tree, Leaf, Inner}
use Rattle.flit_tree_heap.proofs.Growths.{IsTree, IsLawful}
use Rattle.flit_tree_heap.proofs.Moving.{root-row}
use Rattle.flit_tree_heap.proofs.Words.{other-left, other-right}
use Rattle.flit_tree_heap.specs.Edges.{left, right, other}
use Rattle.flit_tree_heap.specs.Routes.{Reading, IsOnRoute}

pub tree-unique : (V : Reading) (w lo hi lo' hi' : ℕ) (t u : Tree) → IsTree V w lo hi t → IsTree V w lo' hi' u → t ≡ u
tree-unique V w lo hi lo' hi' (Leaf r) (Leaf s) h i = ap Leaf (sym h.named ∙ i.named)
tree-unique V w lo hi lo' hi' (Leaf r) (Inner s c d) h i = let e : r ≡ s = sym h.named ∙ i.0.named in
    absurd (omega (arith, rw e at h.no_left, root-row V (left s) lo' (V.key s) c i.1))
tree-unique V w lo hi lo' hi' (Inner r a b) (Leaf s) h i = let e : s ≡ r = sym i.named ∙ h.0.named in
    absurd (omega (arith, rw e at i.no_left, root-row V (left r) lo (V.key r) a h.1))
tree-unique V w lo hi lo' hi' (Inner r a b) (Inner s c d) h i =
    let e : s ≡ r = sym i.0.named ∙ h.0.named in
    let p = tree-unique V (left r) lo (V.key r) lo' (V.key r) a c h.1 (rw e at i.1) in
    let q = tree-unique V (right r) (V.key r) hi (V.key r) hi' b d h.2 (rw e at i.2) in
    cc

pub lawful-unique : (V : Reading) (t u : Tree) → IsLawful V t → IsLawful V u → t ≡ u
lawful-unique V t u h i = tree-unique V 4 0 4294967294 0 4294967294 t u h.is i.is

-- beside a frozen edge of a row of the tree stands a flagged one
pub cut-law : (V : Reading) (j v w lo hi : ℕ) (t : Tree) → IsTree V w lo hi t → IsOnRoute V j v w t → V.frozen (other v) ≡ true → (w ≡ v) ⊎ (V.flag v ≡ true)
cut-law V j v w lo hi (Leaf r) h o f = inl o
cut-law V j v w lo hi (Inner r a b) h (inl e) f = inl e
cut-law V j v w lo hi (Inner r a b) h (inr (inl o)) f = elim (cut-law V j v (left r) lo (V.key r) a h.1 o.1 f) [
  | inl e ↦ inr (ap V.flag (sym e) ∙ h.0.right_frozen (ap V.frozen (sym (other-left r h.0.row) ∙ ap other e) ∙ f))
  | inr e ↦ inr e
]
cut-law V j v w lo hi (Inner r a b) h (inr (inr o)) f = elim (cut-law V j v (right r) (V.key r) hi b h.2 o.1 f) [
  | inl e ↦ inr (ap V.flag (sym e) ∙ h.0.left_frozen (ap V.frozen (sym (other-right r h.0.row) ∙ ap other e) ∙ f))
  | inr e ↦ inr e
]
