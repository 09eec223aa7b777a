-- A chain of frozen edges is cut out.
use Rattle.std.proofs.Common.{◌≡◌, ◌⊎◌, ℕ, ◌<◌, ◌≤◌, true, List, [], ◌∷◌, None, inl, inr, refl, sym, ap, ◌∙◌, arith}
use Rattle.std.proofs.lemmas.Bool.{cases_eq, cases_lt, lt-ltb, le-ltb}
use Rattle.flit_model.specs.Trees.{Tree, Leaf, Inner}
use Rattle.flit_tree_heap.proofs.Bits.{said-other, said-flagged}
use Rattle.flit_tree_heap.proofs.Context.{on-first}
use Rattle.flit_tree_heap.proofs.Growths.{IsTree, InTree, found, Trail}
use Rattle.flit_tree_heap.proofs.Moving.{last-left, last-right}
use Rattle.flit_tree_heap.proofs.Parts.{Spliced}
use Rattle.flit_tree_heap.proofs.Ways.{IsCut, Drops, below, stops, over}
use Rattle.flit_tree_heap.proofs.Words.{own-left, own-right, other-left, other-right}
use Rattle.flit_tree_heap.specs.Edges.{left, right, own, other}
use Rattle.flit_tree_heap.specs.Routes.{Reading, side, IsOnRoute}

-- a tree gives nothing outside of its range
pub none-outside : (V : Reading) (k w lo hi : ℕ) (t : Tree) → IsTree V w lo hi t → (k < lo) ⊎ (hi ≤ k) → found V k w t ≡ None
none-outside V k w lo hi (Leaf r) h (inl o) = said-other V k w (λ e. omega (arith, h.low, ap V.key h.named))
none-outside V k w lo hi (Leaf r) h (inr o) = said-other V k w (λ e. omega (arith, h.high, ap V.key h.named))
none-outside V k w lo hi (Inner r a b) h (inl o) = rw (last-left V k w r a b (omega (arith, h.0.low))) (none-outside V k (left r) lo (V.key r) a h.1 (inl o))
none-outside V k w lo hi (Inner r a b) h (inr o) = rw (last-right V k w r a b (omega (arith, h.0.high))) (none-outside V k (right r) (V.key r) hi b h.2 (inr o))

-- a tree behind a flag gives nothing
pub none-flagged : (V : Reading) (k w lo hi : ℕ) (t : Tree) → IsTree V w lo hi t → V.flag w ≡ true → found V k w t ≡ None
none-flagged V k w lo hi (Leaf r) h f = said-flagged V k w f
none-flagged V k w lo hi (Inner r a b) h f = let u = h.0.unflagged in cc

no-inner : (V : Reading) (w lo hi : ℕ) (t : Tree) → IsTree V w lo hi t → V.flag w ≡ true → (r : ℕ) → InTree r t → ⊥
no-inner V w lo hi (Leaf q) h f r x = x
no-inner V w lo hi (Inner q a b) h f r x = let u = h.0.unflagged in absurd cc

splice-here : (V : Reading) (E : ℕ → Type 0) (w lo hi : ℕ) (t : Tree) → IsTree V w lo hi t → Spliced V E w w lo hi t 0
splice-here V E w lo hi t h = record {
  part = t;
  low = lo;
  high = hi;
  is = h;
  from = omega arith;
  to = omega arith;
  gives = λ j. refl;
  drops = λ j r o n. below r o n;
  gone = λ q x. inl x;
  fewer = omega arith;
}

-- the edge of a row for a key
pub own-side : (V : Reading) (j r : ℕ) → own (side V j r) ≡ r
own-side V j r = elim (cases_lt j (V.key r)) [
  | inl c ↦ rw (lt-ltb j (V.key r) c) (own-left r)
  | inr c ↦ rw (le-ltb j (V.key r) c) (own-right r)
]

pub on-side : (V : Reading) (j w r : ℕ) (a b : Tree) → IsOnRoute V j (side V j r) w (Inner r a b)
on-side V j w r a b = elim (cases_lt j (V.key r)) [
  | inl c ↦ inr (inl (c, on-first V j (side V j r) (left r) a (rw (lt-ltb j (V.key r) c))))
  | inr c ↦ inr (inr (c, on-first V j (side V j r) (right r) b (rw (le-ltb j (V.key r) c))))
]

-- a row whose edge is the first one of a tree, with a bit
drops-first : (V : Reading) (E : ℕ → Type 0) (g v lo hi q : ℕ) (a : Tree) (d : ℕ) (s : Spliced V E g v lo hi a d) → IsTree V v lo hi a →
    (V.key (own v) ≤ lo) ⊎ (hi ≤ V.key (own v)) → IsCut V v → (j r : ℕ) → side V j r ≡ v → Drops V g s.part j r
drops-first V E g v lo hi q (Leaf l) d s h o f j r e = stops r (rw e f) (rw (e, h.named) h.no_left)
drops-first V E g v lo hi q (Inner l a b) d s h o f j r e = over r l (rw e f) (ap V.row e ∙ h.0.named)
    (s.drops j l (on-side V j v l a b) (λ x. apart o (ap V.key (sym (own-side V j l) ∙ ap own x)))) where
      apart : (V.key (own v) ≤ lo) ⊎ (hi ≤ V.key (own v)) → V.key l ≡ V.key (own v) → ⊥
      apart (inl y) z = omega (arith, h.0.low)
      apart (inr y) z = omega (arith, h.0.high)

-- what is behind a flag is a leaf
drops-flagged : (V : Reading) (g v lo hi : ℕ) (part t : Tree) → IsTree V v lo hi t → V.flag v ≡ true → V.frozen (other v) ≡ true → (j r : ℕ) →
    IsOnRoute V j (side V j r) v t → Drops V g part j r
drops-flagged V g v lo hi part (Leaf l) h f z j r o = stops r (inr (rw (sym o) (f, z))) (rw (sym o, h.named) h.no_left)
drops-flagged V g v lo hi part (Inner l a b) h f z j r o = let u = h.0.unflagged in absurd cc

splice-left : (V : Reading) (E : ℕ → Type 0) (g w lo hi r d : ℕ) (a b : Tree) → IsTree V w lo hi (Inner r a b) → V.frozen (left r) ≡ true → E (left r) →
    Spliced V E g (left r) lo (V.key r) a d → Spliced V E g w lo hi (Inner r a b) 1
splice-left V E g w lo hi r d a b h f z0 s = record {
  part = s.part;
  low = s.low;
  high = s.high;
  is = s.is;
  from = s.from;
  to = omega (arith, s.to, h.0.high);
  gives = λ j. elim (cases_lt j (V.key r)) [
    | inl c ↦ rw (last-left V j w r a b c) (s.gives j)
    | inr c ↦ rw (last-right V j w r a b c) (none-flagged V j (right r) (V.key r) hi b h.2 (h.0.left_frozen f)
        ∙ sym (none-outside V j g s.low s.high s.part s.is (inr (omega (arith, s.to)))))
  ];
  drops = λ j q o n. elim o [
    | inl x ↦ absurd (n (sym x))
    | inr y ↦ elim y [
      | inl x ↦ elim (cases_eq (side V j q) (left r)) [
        | inl e ↦ drops-first V E g (left r) lo (V.key r) r a d s h.1 (inr (rw (own-left r) (omega arith))) (inl f) j q e
        | inr z ↦ s.drops j q x.1 z
      ]
      | inr x ↦ drops-flagged V g (right r) (V.key r) hi s.part b h.2 (h.0.left_frozen f) (ap V.frozen (other-right r h.0.row) ∙ f) j q x.1
    ]
  ];
  gone = λ q x. elim x [
    | inl e ↦ inr (inl (rw (← e) (f, h.0.left_frozen f, z0)))
    | inr y ↦ elim y [
      | inl z ↦ s.gone q z
      | inr z ↦ absurd (no-inner V (right r) (V.key r) hi b h.2 (h.0.left_frozen f) q z)
    ]
  ];
  fewer = omega (arith, s.fewer);
}

splice-right : (V : Reading) (E : ℕ → Type 0) (g w lo hi r d : ℕ) (a b : Tree) → IsTree V w lo hi (Inner r a b) → V.frozen (right r) ≡ true → E (right r) →
    Spliced V E g (right r) (V.key r) hi b d → Spliced V E g w lo hi (Inner r a b) 1
splice-right V E g w lo hi r d a b h f z0 s = record {
  part = s.part;
  low = s.low;
  high = s.high;
  is = s.is;
  from = omega (arith, s.from, h.0.low);
  to = s.to;
  gives = λ j. elim (cases_lt j (V.key r)) [
    | inl c ↦ rw (last-left V j w r a b c) (none-flagged V j (left r) lo (V.key r) a h.1 (h.0.right_frozen f)
        ∙ sym (none-outside V j g s.low s.high s.part s.is (inl (omega (arith, s.from)))))
    | inr c ↦ rw (last-right V j w r a b c) (s.gives j)
  ];
  drops = λ j q o n. elim o [
    | inl x ↦ absurd (n (sym x))
    | inr y ↦ elim y [
      | inl x ↦ drops-flagged V g (left r) lo (V.key r) s.part a h.1 (h.0.right_frozen f) (ap V.frozen (other-left r h.0.row) ∙ f) j q x.1
      | inr x ↦ elim (cases_eq (side V j q) (right r)) [
        | inl e ↦ drops-first V E g (right r) (V.key r) hi r b d s h.2 (inl (rw (own-right r) (omega arith))) (inl f) j q e
        | inr z ↦ s.drops j q x.1 z
      ]
    ]
  ];
  gone = λ q x. elim x [
    | inl e ↦ inr (inr (rw (← e) (f, h.0.right_frozen f, z0)))
    | inr y ↦ elim y [
      | inl z ↦ absurd (no-inner V (left r) lo (V.key r) a h.1 (h.0.right_frozen f) q z)
      | inr z ↦ s.gone q z
    ]
  ];
  fewer = omega (arith, s.fewer);
}

-- a trail from the root of a tree leads to a part that gives all
pub splice : (V : Reading) (E : ℕ → Type 0) (k g w lo hi : ℕ) (t : Tree) (r : ℕ) (rows : List ℕ) → IsTree V w lo hi t → V.row w ≡ r → Trail V E k g r rows →
    Spliced V E g w lo hi t 1
splice V E k g w lo hi (Leaf q) r [] h e t = absurd (elim t.0 [
  | inl x ↦ omega (arith, t.2, ap V.row (x ∙ ap left (sym e ∙ h.named)), h.no_left)
  | inr x ↦ omega (arith, t.2, ap V.row (x ∙ ap right (sym e ∙ h.named)), h.no_right)
])
splice V E k g w lo hi (Leaf q) r (s ∷ rs) h e t = absurd (elim (cases_lt k (V.key r)) [
  | inl c ↦ omega (arith, t.1, rw (lt-ltb k (V.key r) c) at t.0, ap V.row (ap left (sym e ∙ h.named)), h.no_left)
  | inr c ↦ omega (arith, t.1, rw (le-ltb k (V.key r) c) at t.0, ap V.row (ap right (sym e ∙ h.named)), h.no_right)
])
splice V E k g w lo hi (Inner q a b) r [] h e t = let eq : r ≡ q = sym e ∙ h.0.named in elim t.0 [
  | inl x ↦ let y : g ≡ left q = x ∙ ap left eq in rw y (splice-left V E (left q) w lo hi q 0 a b h (rw y at t.1) (rw y at t.3)
      (splice-here V E (left q) lo (V.key q) a h.1))
  | inr x ↦ let y : g ≡ right q = x ∙ ap right eq in rw y (splice-right V E (right q) w lo hi q 0 a b h (rw y at t.1) (rw y at t.3)
      (splice-here V E (right q) (V.key q) hi b h.2))
]
splice V E k g w lo hi (Inner q a b) r (s ∷ rs) h e t = let eq : r ≡ q = sym e ∙ h.0.named in let u : Trail V E k g q (s ∷ rs) = rw eq at t in
    elim (cases_lt k (V.key q)) [
      | inl c ↦ let v = rw (lt-ltb k (V.key q) c) at u in
          splice-left V E g w lo hi q 1 a b h v.2 v.3 (splice V E k g (left q) lo (V.key q) a s rs h.1 v.0 v.4)
      | inr c ↦ let v = rw (le-ltb k (V.key q) c) at u in
          splice-right V E g w lo hi q 1 a b h v.2 v.3 (splice V E k g (right q) (V.key q) hi b s rs h.2 v.0 v.4)
    ]
