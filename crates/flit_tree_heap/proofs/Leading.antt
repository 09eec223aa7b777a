-- A search is led from row 2 on, and by each edge that it loads.
use Rattle.std.proofs.Common.{◌≡◌, ℕ, ◌<◌, ◌≤◌, cond, List, slice_index, refl, sym, ap, subst, ◌∙◌, arith, inl, inr}
use Rattle.std.proofs.lemmas.Bool.{lt-ltb}
use Rattle.flit_words.specs.declared.layouts.Layout.{Layout}
use Rattle.flit_words.specs.Words.{version_of}
use Rattle.flit_model.specs.Trees.{Tree, Leaf, Inner}
use Rattle.flit_runs.specs.Workings.{Dependency}
use Rattle.flit_runs.specs.Soundness.{Needs}
use Rattle.flit_crew.specs.Heaps.{at_word, at_shadow}
use Rattle.flit_tree_heap.specs.Edges.{left, right, row_of}
use Rattle.flit_tree_heap.specs.Routes.{Reading, IsOnRoute, Leads, here, ends, on, reading, side}
use Rattle.flit_tree_heap.specs.Views.{TreeHeap, IsLinked, IsInnerRow, IsLed}
use Rattle.flit_tree_heap.specs.Kept.{IsKept}
use Rattle.flit_tree_heap.specs.Exchanges.{side_now}
use Rattle.flit_tree_heap.proofs.Growths.{IsTree, IsLawful}
use Rattle.flit_tree_heap.proofs.Context.{on-first}
use Rattle.flit_tree_heap.proofs.Splice.{on-side}
use Rattle.flit_tree_heap.proofs.Images.{nowhere, lawful_to}
use Rattle.flit_tree_heap.proofs.Moving.{root-row}
use Rattle.flit_tree_heap.proofs.Viewing.{shadows_view}
use Rattle.flit_tree_heap.proofs.Rows.{row_range, left_open, edge_open}
use Rattle.flit_tree_heap.proofs.Winning.{side_seen}
use Rattle.flit_tree_heap.proofs.Sameness.{side_edge}

pub left_two : left 2 ≡ 4
unfolding left
left_two = refl

-- row 2 is inner, as its left edge leads to the tree
pub two_inner : (l : Layout) (free : List ℕ) (h : TreeHeap) → IsKept l free h → IsInnerRow l h 2
two_inner l free h K = elim (K.linked 2 (inl refl)).kind [
  | inr f ↦ f
  | inl f ↦
      let i = K.images h.shadows (shadows_view l free h K) in
      let some = root-row (reading l h.shadows) 4 0 4294967294 i.0 (lawful_to l K.layout.accepted K.layout.kind h.shadows i.0 i.1).is in
      let none : row_of (at_shadow h 4) ≡ 0 = ap (λ w. row_of (at_shadow h w)) (sym left_two) ∙ ap row_of (sym f.left_rest)
      ∙ (nowhere (at_word h (left 2)) f.no_left).0 in
      absurd (omega (arith, some, none))
]

-- row 2 is on each route
pub led_top : (l : Layout) (free : List ℕ) (h : TreeHeap) (needs : List Dependency) (key : ℕ) → IsKept l free h → key < 4294967294 → IsLed l free h needs key 2
led_top l free h needs key K b V t v takes m =
    let two = (lawful_to l K.layout.accepted K.layout.kind V t m).two in
    here 2 (on-first (reading l V) key (side (reading l V) key 2) 4 t
    (sym (ap (λ x. cond x (left 2) (right 2)) (lt-ltb key ((reading l V).key 2) (omega (arith, b, two))) ∙ left_two)))

-- behind an edge on a route comes the next one
on-next : (V : Reading) (k v w lo hi : ℕ) (t : Tree) → IsTree V w lo hi t → IsOnRoute V k v w t → (s : ℕ) → V.row v ≡ s → 1 ≤ V.row (left s) →
    IsOnRoute V k (side V k s) w t
on-next V k v w lo hi (Leaf r) h o s e i = let x : r ≡ s = sym h.named ∙ ap V.row o ∙ e in absurd (omega (arith, i, rw x at h.no_left))
on-next V k v w lo hi (Inner r a b) h (inl o) s e i =
    let x : s ≡ r = sym e ∙ ap V.row (sym o) ∙ h.0.named in subst (λ (q : ℕ). IsOnRoute V k (side V k q) w (Inner r a b)) (sym x) (on-side V k w r a b)
on-next V k v w lo hi (Inner r a b) h (inr (inl o)) s e i = inr (inl (o.0, on-next V k v (left r) lo (V.key r) a h.1 o.1 s e i))
on-next V k v w lo hi (Inner r a b) h (inr (inr o)) s e i = inr (inr (o.0, on-next V k v (right r) (V.key r) hi b h.2 o.1 s e i))

leads-next : (V : Reading) (t : Tree) → IsLawful V t → (k r s : ℕ) → Leads V t k r → V.row (side V k r) ≡ s → 1 ≤ V.row (left s) → Leads V t k s
leads-next V t l k r s (here _ o) e i = here s (on-next V k (side V k r) 4 0 4294967294 t l.is o s e i)
leads-next V t l k r s (ends _ b z) e i = absurd (omega (arith, i, rw e at z))
leads-next V t l k r s (on _ q b z d) e i = let x : q ≡ s = sym z ∙ e in rw x at d

-- who is led to a row, and depends on its edge for the key, is led to the inner row that the edge leads to
pub led_next : (l : Layout) (free : List ℕ) (h : TreeHeap) (needs : List Dependency) (key row next : ℕ) → IsKept l free h → IsLinked l h row →
    IsInnerRow l h row →
    IsLed l free h needs key row → Needs needs (side_now l h key row) (version_of (at_word h (side_now l h key row))) →
    row_of (at_word h (side_now l h key row)) ≡ next → IsLinked l h next → IsInnerRow l h next → IsLed l free h needs key next
led_next l free h needs key row next K i f L n e j g V t v takes m =
    let x : side (reading l V) key row ≡ side_now l h key row = side_seen l free h K V v key row i in
    let o = edge_open l free h K (side_now l h key row) (side_edge l h key row i f) in
    let y : slice_index V (side_now l h key row) ≡ at_word h (side_now l h key row) = takes (side_now l h key row) o n in
    leads-next (reading l V) t (lawful_to l K.layout.accepted K.layout.kind V t m) key row next (L V t v takes m)
    (ap (λ w. row_of (slice_index V w)) x ∙ ap row_of y ∙ e)
    (elim (v.places (left next) (left_open l free h K next j)) [
      | inl z ↦ rw z (omega (arith, (row_range l free h K (row_of (at_word h (left next))) g.left_on.word).0))
      | inr z ↦ rw z (omega (arith, (row_range l free h K (row_of (at_shadow h (left next))) g.left_on.shadow).0))
    ])
