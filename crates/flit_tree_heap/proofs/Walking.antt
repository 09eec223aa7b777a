-- How far a searcher has to go.
use Rattle.std.proofs.Common.{◌≡◌, ℕ, zero, suc, ◌+◌, ◌<◌, ◌≤◌, true, false, List, Contains, slice_index, subst, [], ◌∷◌, length, inl, inr, refl, sym, ap, arith, eqb}
use Rattle.std.proofs.lemmas.Bool.{cases_eq, cases_lt, lt-ltb, le-ltb, eq-eqb, ne_eqb, eqb-true, or_cases}
use Rattle.std.specs.List.{AllByRecursion, IsDistinct, list_any}
use Rattle.std.proofs.lemmas.Map.Keys.{IsDistinct-cons}
use Rattle.std.proofs.lemmas.Map.Steps.{length-le_from_distinct_below}
use Rattle.flit_words.specs.declared.layouts.Layout.{Layout}
use Rattle.flit_model.specs.Trees.{Tree, Leaf, Inner, IsLawfulTree, rows_in_tree}
use Rattle.flit_runs.specs.Workings.{Dependency}
use Rattle.flit_crew.specs.Heaps.{at_word, IsOpen}
use Rattle.flit_tree_heap.specs.Edges.{left, right, row_of}
use Rattle.flit_tree_heap.specs.Routes.{Reading, side, IsOnRoute, Leads, here, ends, on, reading}
use Rattle.flit_tree_heap.specs.Views.{TreeHeap, IsLinked, LeadsOn, IsInnerRow, IsView, Takes, IsLed}
use Rattle.flit_tree_heap.specs.Kept.{IsKept}
use Rattle.flit_tree_heap.specs.Walks.{inners, Walks, ended, step, walk}
use Rattle.flit_tree_heap.proofs.Growths.{IsTree, IsLawful}
use Rattle.flit_tree_heap.proofs.Moving.{root-row}
use Rattle.flit_tree_heap.proofs.Images.{nowhere, lawful_to, contains_row}
use Rattle.flit_tree_heap.proofs.Once.{all_rows}
use Rattle.flit_tree_heap.proofs.Rows.{row_range, left_open, right_open}
use Rattle.flit_tree_heap.proofs.Leading.{left_two, two_inner}
use Rattle.flit_tree_heap.proofs.Viewing.{view_rest}

-- the way from an edge on a route
on-walk : (V : Reading) (k w lo hi : ℕ) (t : Tree) → IsTree V w lo hi t → (d : ℕ) × Walks V k (V.row w) d × (d ≤ inners t)
on-walk V k w lo hi (Leaf r) h = (0, rw h.named (ended r h.no_left), omega arith)
on-walk V k w lo hi (Inner r a b) h = elim (cases_lt k (V.key r)) [
  | inl c ↦ let f = on-walk V k (left r) lo (V.key r) a h.1 in (
    suc f.0,
    rw h.0.named (step r f.0 (root-row V (left r) lo (V.key r) a h.1) (rw (lt-ltb k (V.key r) c) f.1)),
    omega (arith, f.2),
  )
  | inr c ↦ let f = on-walk V k (right r) (V.key r) hi b h.2 in (
    suc f.0,
    rw h.0.named (step r f.0 (root-row V (left r) lo (V.key r) a h.1) (rw (le-ltb k (V.key r) c) f.1)),
    omega (arith, f.2),
  )
]

route-walk : (V : Reading) (k v w lo hi : ℕ) (t : Tree) → IsTree V w lo hi t → IsOnRoute V k v w t → (d : ℕ) × Walks V k (V.row v) d
route-walk V k v w lo hi (Leaf r) h o = let f = on-walk V k w lo hi (Leaf r) h in (f.0, rw (← o) f.1)
route-walk V k v w lo hi (Inner r a b) h (inl o) = let f = on-walk V k w lo hi (Inner r a b) h in (f.0, rw (← o) f.1)
route-walk V k v w lo hi (Inner r a b) h (inr (inl o)) = route-walk V k v (left r) lo (V.key r) a h.1 o.1
route-walk V k v w lo hi (Inner r a b) h (inr (inr o)) = route-walk V k v (right r) (V.key r) hi b h.2 o.1

pub leads-walk : (V : Reading) (t : Tree) → IsLawful V t → (k r : ℕ) → Leads V t k r → 1 ≤ V.row (left r) → (d : ℕ) × Walks V k r d
leads-walk V t l k r (here _ o) i = let f = route-walk V k (side V k r) 4 0 4294967294 t l.is o in (suc f.0, step r f.0 i f.1)
leads-walk V t l k r (ends _ b e) i = (1, step r 0 i (ended (V.row (side V k r)) e))
leads-walk V t l k r (on _ s b e d) i = elim (cases_eq (V.row (left s)) 0) [
  | inl z ↦ (1, step r 0 i (rw e (ended s z)))
  | inr n ↦ let f = leads-walk V t l k s d (omega arith) in (suc f.0, step r f.0 i (rw e f.1))
]

pub top-walk : (V : Reading) (t : Tree) → IsLawful V t → (k : ℕ) → (d : ℕ) × Walks V k (V.row 4) d × (d ≤ inners t)
top-walk V t l k = on-walk V k 4 0 4294967294 t l.is

pub walks-one : (V : Reading) (k r d e : ℕ) → Walks V k r d → Walks V k r e → d ≡ e
walks-one V k r zero zero (ended _ z) (ended _ y) = refl
walks-one V k r zero (suc e) (ended _ z) (step _ _ i w) = absurd (omega arith)
walks-one V k r (suc d) zero (step _ _ i w) (ended _ z) = absurd (omega arith)
walks-one V k r (suc d) (suc e) (step _ _ i w) (step _ _ j v) = ap suc (walks-one V k (V.row (side V k r)) d e w v)

pub walks-walk : (V : Reading) (k most r d : ℕ) → Walks V k r d → d ≤ most → walk V k most r ≡ d
walks-walk V k zero r zero w h = refl
walks-walk V k zero r (suc d) w h = absurd (omega arith)
walks-walk V k (suc most) r zero (ended _ z) h = rw (eq-eqb (V.row (left r)) 0 z) refl
walks-walk V k (suc most) r (suc d) (step _ _ i w) h = rw (ne_eqb (V.row (left r)) 0 (λ e. omega arith))
    (ap suc (walks-walk V k most (V.row (side V k r)) d w (omega arith)))

-- ---- the rows on the way differ

all-map : (P Q : ℕ → Type 0) → ((x : ℕ) → P x → Q x) → (xs : List ℕ) → AllByRecursion P xs → AllByRecursion Q xs
all-map P Q f [] h = tt
all-map P Q f (x ∷ xs) h = (f x h.0, all-map P Q f xs h.1)

any-all : (n q : ℕ) (xs : List ℕ) → AllByRecursion (λ y. y < n) xs → list_any (eqb q) xs ≡ true → q < n
any-all n q [] a e = absurd cc
any-all n q (x ∷ xs) a e = elim (or_cases (eqb q x) (list_any (eqb q) xs) e) [
  | inl y ↦ rw (eqb-true q x y) a.0
  | inr y ↦ any-all n q xs a.1 y
]

record Visited (V : Reading) (G : ℕ → Type 0) (k d : ℕ) : Type 0 where
  items : List ℕ
  size : length items ≡ d
  each : AllByRecursion (λ q. G q × ((e : ℕ) × Walks V k q e × (e ≤ d))) items
  once : IsDistinct eqb items

module _ (V : Reading) (G : ℕ → Type 0) (closed : (r : ℕ) → G r → 1 ≤ V.row (left r) → G (V.row (left r)) × G (V.row (right r))) (k : ℕ) where
  none : Visited V G k 0
  unfolding IsDistinct
  none = record { items = []; size = refl; each = tt; once = tt }

  visited : (r d : ℕ) → G r → Walks V k r d → Visited V G k d
  visited r zero g w = none
  visited r (suc d) g (step _ _ i w) =
      let c = closed r g i in
      let gs : G (V.row (side V k r)) = elim (cases_lt k (V.key r)) [ inl x ↦ rw (lt-ltb k (V.key r) x) c.0 | inr x ↦ rw (le-ltb k (V.key r) x) c.1 ] in
      let v = visited (V.row (side V k r)) d gs w in
      record {
        items = r ∷ v.items;
        size = ap suc v.size;
        each = (
          (g, (suc d, step r d i w, omega arith)),
          all-map (λ q. G q × ((e : ℕ) × Walks V k q e × (e ≤ d)))
              (λ q. G q × ((e : ℕ) × Walks V k q e × (e ≤ suc d))) (λ q x. (x.0, (x.1.0, x.1.1, omega (arith, x.1.2)))) v.items v.each,
        );
        once = IsDistinct-cons eqb r v.items (all-map (λ q. G q × ((e : ℕ) × Walks V k q e × (e ≤ d))) (λ y. eqb r y ≡ false) (λ q x. ne_eqb r q (λ y.
            let u = walks-one V k q x.1.0 (suc d) x.1.1 (rw y at (step r d i w)) in omega (arith, u, x.1.2))) v.items v.each) v.once;
      }

pub walks-most : (V : Reading) (G : ℕ → Type 0) (n : ℕ) → ((r : ℕ) → G r → r < n) →
    ((r : ℕ) → G r → 1 ≤ V.row (left r) → G (V.row (left r)) × G (V.row (right r))) → (k r d : ℕ) → G r → Walks V k r d → d ≤ n
walks-most V G n below closed k r d g w =
    let v = visited V G closed k r d g w in
    omega (
      arith,
      v.size,
      length-le_from_distinct_below v.items n v.once
          (λ q. any-all n q v.items (all-map (λ q. G q × ((e : ℕ) × Walks V k q e × (e ≤ d))) (λ y. y < n) (λ q x. below q x.0) v.items v.each)),
    )

-- ---- searches in the views of a heap

module _ (l : Layout) (free : List ℕ) (h : TreeHeap) (K : IsKept l free h) (U : List ℕ) (v : IsView l free h U) where
  linked_seen : (w : ℕ) → IsOpen l free h w → LeadsOn l h w → IsLinked l h (row_of (slice_index U w))
  linked_seen w o x = elim (v.places w o) [
    | inl e ↦ subst (λ y. IsLinked l h (row_of y)) (sym e) x.word
    | inr e ↦ subst (λ y. IsLinked l h (row_of y)) (sym e) x.shadow
  ]

  -- edges lead from linked rows to linked rows
  linked_next : (r : ℕ) → IsLinked l h r → 1 ≤ (reading l U).row (left r) →
      IsLinked l h ((reading l U).row (left r)) × IsLinked l h ((reading l U).row (right r))
  linked_next r i some = elim (K.linked r i).kind [
    | inl f ↦ absurd (omega (
      arith,
      some,
      ap row_of (view_rest l free h U v (left r) (left_open l free h K r i) f.left_rest),
      (nowhere (at_word h (left r)) f.no_left).0,
    ))
    | inr f ↦ (linked_seen (left r) (left_open l free h K r i) f.left_on, linked_seen (right r) (right_open l free h K r i) f.right_on)
  ]

  two_leads : IsLinked l h (row_of (slice_index U 4))
  two_leads = subst (λ w. IsLinked l h (row_of (slice_index U w))) left_two
      (linked_seen (left 2) (left_open l free h K 2 (inl refl)) (two_inner l free h K).left_on)

  -- the rows of a view's tree are linked
  pub tree_linked : (t : Tree) → IsLawfulTree l U t → (r : ℕ) → Contains (rows_in_tree t) r → IsLinked l h r
  tree_linked t m r c = all_rows (reading l U) (IsLinked l h) linked_next 4 0 4294967294 t (lawful_to l K.layout.accepted K.layout.kind U t m).is
      two_leads r
      (contains_row l K.layout.accepted K.layout.kind t r c)

  -- a search that is led comes to a leaf, over no more rows than there are
  pub led_walks : (needs : List Dependency) (key row : ℕ) → IsLinked l h row → IsInnerRow l h row → IsLed l free h needs key row → Takes l free h needs U →
      (many : ℕ) × Walks (reading l U) key row many × (many ≤ l.rows + 6)
  led_walks needs key row i f L takes =
      let j = K.images U v in
      let some : 1 ≤ row_of (slice_index U (left row)) =
      omega (arith, (row_range l free h K (row_of (slice_index U (left row))) (linked_seen (left row) (left_open l free h K row i) f.left_on)).0) in
      let w = leads-walk (reading l U) j.0 (lawful_to l K.layout.accepted K.layout.kind U j.0 j.1) key row (L U j.0 v takes j.1) some in
      (w.0, w.1, walks-most (reading l U) (IsLinked l h) (l.rows + 6) (λ r x. omega (arith, (row_range l free h K r x).1)) linked_next key row w.0 i w.1)

  -- a new search comes to a leaf over no more rows than the tree has
  pub top_walks : (t : Tree) → IsLawfulTree l U t → (key : ℕ) → (many : ℕ) × Walks (reading l U) key (row_of (slice_index U 4)) many × (many ≤ inners t)
  top_walks t m key = top-walk (reading l U) t (lawful_to l K.layout.accepted K.layout.kind U t m) key
