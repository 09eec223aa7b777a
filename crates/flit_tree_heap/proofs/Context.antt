-- A tree with another one put at an edge of a route.
use Rattle.std.proofs.Common.{◌≡◌, ◌≢◌, ◌⊎◌, ℕ, ◌<◌, ◌≤◌, true, false, inl, inr, refl, sym, ap, ◌∙◌, arith}
use Rattle.std.proofs.lemmas.Bool.{cases_eq, cases_lt}
use Rattle.flit_model.specs.Trees.{Tree, Leaf, Inner}
use Rattle.flit_tree_heap.proofs.Growths.{IsInner, IsTree, Outside, Writes}
use Rattle.flit_tree_heap.proofs.Moving.{last-left, last-right, move, move-found}
use Rattle.flit_tree_heap.proofs.Parts.{Put, Focus}
use Rattle.flit_tree_heap.proofs.Words.{own-left, own-right, sides-apart}
use Rattle.flit_tree_heap.specs.Edges.{left, right, own}
use Rattle.flit_tree_heap.specs.Routes.{Reading, IsOnRoute}

-- an edge on a route is the first one or the edge of a row in range
pub on-inside : (V : Reading) (k w0 w lo hi : ℕ) (t : Tree) → IsTree V w lo hi t → IsOnRoute V k w0 w t →
    (w ≡ w0) ⊎ ((lo < V.key (own w0)) × (V.key (own w0) < hi))
on-inside V k w0 w lo hi (Leaf r) h o = inl o
on-inside V k w0 w lo hi (Inner r a b) h (inl o) = inl o
on-inside V k w0 w lo hi (Inner r a b) h (inr (inl o)) = elim (on-inside V k w0 (left r) lo (V.key r) a h.1 o.1) [
  | inl e ↦ let k0 : V.key (own w0) ≡ V.key r = ap V.key (ap own (sym e) ∙ own-left r) in inr (omega (arith, h.0.low), omega (arith, h.0.high))
  | inr e ↦ inr (e.0, omega (arith, e.1, h.0.high))
]
on-inside V k w0 w lo hi (Inner r a b) h (inr (inr o)) = elim (on-inside V k w0 (right r) (V.key r) hi b h.2 o.1) [
  | inl e ↦ let k0 : V.key (own w0) ≡ V.key r = ap V.key (ap own (sym e) ∙ own-right r) in inr (omega (arith, h.0.low), omega (arith, h.0.high))
  | inr e ↦ inr (omega (arith, e.0, h.0.low), e.1)
]

-- routes see only keys
pub on-keys : (V U : Reading) → ((r : ℕ) → U.key r ≡ V.key r) → (j v w : ℕ) (t : Tree) → IsOnRoute V j v w t → IsOnRoute U j v w t
on-keys V U e j v w (Leaf r) o = o
on-keys V U e j v w (Inner r a b) (inl o) = inl o
on-keys V U e j v w (Inner r a b) (inr (inl o)) = inr (inl (rw (e r) o.0, on-keys V U e j v (left r) a o.1))
on-keys V U e j v w (Inner r a b) (inr (inr o)) = inr (inr (rw (e r) o.0, on-keys V U e j v (right r) b o.1))

-- the first edge is on each route
pub on-first : (V : Reading) (j v w : ℕ) (t : Tree) → w ≡ v → IsOnRoute V j v w t
on-first V j v w (Leaf r) e = e
on-first V j v w (Inner r a b) e = inl e

module _ (V U : Reading) (w0 : ℕ) (W : Writes V U w0) (unfrozen : U.frozen w0 ≡ false) (unflagged : V.flag w0 ≡ false) where
  pub frozen-down : (w : ℕ) → U.frozen w ≡ true → V.frozen w ≡ true
  frozen-down w h = elim (cases_eq w w0) [
    | inl e ↦ let x : U.frozen w ≡ false = ap U.frozen e ∙ unfrozen in cc
    | inr n ↦ sym (W.frozen w n) ∙ h
  ]

  pub flag-up : (w : ℕ) → V.flag w ≡ true → U.flag w ≡ true
  flag-up w h = elim (cases_eq w w0) [
    | inl e ↦ let x : V.flag w ≡ false = ap V.flag e ∙ unflagged in cc
    | inr n ↦ W.flag w n ∙ h
  ]

  pub inner-stays : (w lo hi r : ℕ) → w ≢ w0 → IsInner V w lo hi r → IsInner U w lo hi r
  inner-stays w lo hi r n h = record {
    named = W.row w n ∙ h.named;
    row = h.row;
    inside = rw W.rows h.inside;
    low = rw (W.key r) h.low;
    high = rw (W.key r) h.high;
    unflagged = W.flag w n ∙ h.unflagged;
    left_frozen = λ e. flag-up (right r) (h.left_frozen (frozen-down (left r) e));
    right_frozen = λ e. flag-up (left r) (h.right_frozen (frozen-down (right r) e));
  }

  -- the tree behind the left edge is replaced
  pub put-left : (w lo hi r low high : ℕ) (a b s s' : Tree) → IsTree V w lo hi (Inner r a b) → w ≢ w0 → right r ≢ w0 → Outside V w0 (V.key r) hi →
      high ≤ V.key r → Put V U w0 low high s s' (left r) lo (V.key r) a → Put V U w0 low high s s' w lo hi (Inner r a b)
  put-left w lo hi r low high a b s s' h n nr o le p = record {
    tree = Inner r p.tree b;
    is = (
      inner-stays w lo hi r n h.0,
      rw (W.key r) p.is,
      rw (W.key r)
          (move V U w0 W (right r) (right r) (V.key r) hi (V.key r) hi b h.2 o (W.row (right r) nr) (W.flag (right r) nr) (omega arith) (omega arith)),
    );
    gives = λ j lj jh. elim (cases_lt j (V.key r)) [
      | inl c ↦ rw (last-left V j w r a b c, last-left U j w r p.tree b (rw (W.key r) c)) (p.gives j (omega arith) (omega arith))
      | inr c ↦ inr (
        inr (omega arith),
        rw (last-right V j w r a b c, last-right U j w r p.tree b (rw (W.key r) c))
            (move-found V U w0 W j (right r) (right r) (V.key r) hi b h.2 o (W.row (right r) nr) (W.flag (right r) nr)),
      )
    ];
    keeps = λ j v lj jh q. elim q [
      | inl x ↦ inl (inl x)
      | inr y ↦ elim y [
        | inl x ↦ elim (p.keeps j v lj x.0 x.1) [ inl z ↦ inl (inr (inl (rw (W.key r) x.0, z))) | inr z ↦ inr z ]
        | inr x ↦ inl (inr (inr (rw (W.key r) x.0, on-keys V U W.key j v (right r) b x.1)))
      ]
    ];
    lifts = λ j v a b x. inr (inl (rw (W.key r) (omega arith), p.lifts j v a b x));
    rows = λ q x. elim x [
      | inl y ↦ inl (inl y)
      | inr y ↦ elim y [
        | inl z ↦ elim (p.rows q z) [ inl u ↦ inl (inr (inl u)) | inr u ↦ inr u ]
        | inr z ↦ inl (inr (inr z))
      ]
    ];
    brings = λ q x. inr (inl (p.brings q x));
    count = omega (arith, p.count);
  }

  pub put-right : (w lo hi r low high : ℕ) (a b s s' : Tree) → IsTree V w lo hi (Inner r a b) → w ≢ w0 → left r ≢ w0 → Outside V w0 lo (V.key r) →
      V.key r ≤ low → Put V U w0 low high s s' (right r) (V.key r) hi b → Put V U w0 low high s s' w lo hi (Inner r a b)
  put-right w lo hi r low high a b s s' h n nl o le p = record {
    tree = Inner r a p.tree;
    is = (
      inner-stays w lo hi r n h.0,
      rw (W.key r) (move V U w0 W (left r) (left r) lo (V.key r) lo (V.key r) a h.1 o (W.row (left r) nl) (W.flag (left r) nl)
          (omega arith) (omega arith)),
      rw (W.key r) p.is,
    );
    gives = λ j lj jh. elim (cases_lt j (V.key r)) [
      | inl c ↦ inr (
        inl (omega arith),
        rw (last-left V j w r a b c, last-left U j w r a p.tree (rw (W.key r) c))
            (move-found V U w0 W j (left r) (left r) lo (V.key r) a h.1 o (W.row (left r) nl) (W.flag (left r) nl)),
      )
      | inr c ↦ rw (last-right V j w r a b c, last-right U j w r a p.tree (rw (W.key r) c)) (p.gives j (omega arith) (omega arith))
    ];
    keeps = λ j v lj jh q. elim q [
      | inl x ↦ inl (inl x)
      | inr y ↦ elim y [
        | inl x ↦ inl (inr (inl (rw (W.key r) x.0, on-keys V U W.key j v (left r) a x.1)))
        | inr x ↦ elim (p.keeps j v x.0 jh x.1) [ inl z ↦ inl (inr (inr (rw (W.key r) x.0, z))) | inr z ↦ inr z ]
      ]
    ];
    lifts = λ j v a b x. inr (inr (rw (W.key r) (omega arith), p.lifts j v a b x));
    rows = λ q x. elim x [
      | inl y ↦ inl (inl y)
      | inr y ↦ elim y [
        | inl z ↦ inl (inr (inl z))
        | inr z ↦ elim (p.rows q z) [ inl u ↦ inl (inr (inr u)) | inr u ↦ inr u ]
      ]
    ];
    brings = λ q x. inr (inr (p.brings q x));
    count = omega (arith, p.count);
  }

  pub focus-here : (k w lo hi : ℕ) (t : Tree) → IsTree V w lo hi t → Outside V w lo hi → lo ≤ k → k < hi → w ≡ w0 → Focus V U k w0 w lo hi t
  focus-here k w lo hi t h o a b e = rw (← e) (record {
    part = t;
    low = lo;
    high = hi;
    is = h;
    outside = o;
    above = a;
    below = b;
    from = omega arith;
    to = omega arith;
    ends = refl;
    put = λ s i. record {
      tree = s;
      is = i;
      gives = λ j lj jh. inl (lj, jh, refl, refl);
      keeps = λ j v lj jh x. inr (lj, jh, x);
      lifts = λ j v lj jh x. x;
      rows = λ q x. inr x;
      brings = λ q x. x;
      count = omega arith;
    };
  })

  -- the edge w0 on the left of r, or below it, and on the right
  pub left-place : (k w lo hi r : ℕ) (a b : Tree) → IsTree V w lo hi (Inner r a b) → Outside V w lo hi → IsOnRoute V k w0 (left r) a →
      (w ≢ w0) × (right r ≢ w0) × Outside V w0 (V.key r) hi
  left-place k w lo hi r a b h o on = elim (on-inside V k w0 (left r) lo (V.key r) a h.1 on) [
    | inl e ↦ let k0 : V.key (own w0) ≡ V.key r = ap V.key (ap own (sym e) ∙ own-left r) in
        ((λ x. apart w lo hi o x (omega (arith, h.0.low)) (omega (arith, h.0.high))), (λ x. sides-apart r h.0.row (e ∙ sym x)), inl (omega arith))
    | inr e ↦ let bound : V.key (own w0) < hi = omega (arith, e.1, h.0.high) in (
      (λ x. apart w lo hi o x e.0 bound),
      (λ x. let k0 : V.key (own w0) ≡ V.key r = ap V.key (ap own (sym x) ∙ own-right r) in omega (arith, e.1)),
      inl (omega (arith, e.1)),
    )
  ] where
    apart : (w lo hi : ℕ) → Outside V w lo hi → w ≡ w0 → lo < V.key (own w0) → V.key (own w0) < hi → ⊥
    apart w lo hi (inl q) e a b = omega (arith, ap V.key (ap own e))
    apart w lo hi (inr q) e a b = omega (arith, ap V.key (ap own e))

  pub right-place : (k w lo hi r : ℕ) (a b : Tree) → IsTree V w lo hi (Inner r a b) → Outside V w lo hi → IsOnRoute V k w0 (right r) b →
      (w ≢ w0) × (left r ≢ w0) × Outside V w0 lo (V.key r)
  right-place k w lo hi r a b h o on = elim (on-inside V k w0 (right r) (V.key r) hi b h.2 on) [
    | inl e ↦ let k0 : V.key (own w0) ≡ V.key r = ap V.key (ap own (sym e) ∙ own-right r) in
        ((λ x. apart w lo hi o x (omega (arith, h.0.low)) (omega (arith, h.0.high))), (λ x. sides-apart r h.0.row (x ∙ sym e)), inr (omega arith))
    | inr e ↦ let bound : lo < V.key (own w0) = omega (arith, e.0, h.0.low) in (
      (λ x. apart w lo hi o x bound e.1),
      (λ x. let k0 : V.key (own w0) ≡ V.key r = ap V.key (ap own (sym x) ∙ own-left r) in omega (arith, e.0)),
      inr (omega (arith, e.0)),
    )
  ] where
    apart : (w lo hi : ℕ) → Outside V w lo hi → w ≡ w0 → lo < V.key (own w0) → V.key (own w0) < hi → ⊥
    apart w lo hi (inl q) e a b = omega (arith, ap V.key (ap own e))
    apart w lo hi (inr q) e a b = omega (arith, ap V.key (ap own e))

  pub focus : (k w lo hi : ℕ) (t : Tree) → IsTree V w lo hi t → Outside V w lo hi → lo ≤ k → k < hi → IsOnRoute V k w0 w t → Focus V U k w0 w lo hi t
  focus k w lo hi (Leaf r) h o a b on = focus-here k w lo hi (Leaf r) h o a b on
  focus k w lo hi (Inner r p q) h o a b (inl e) = focus-here k w lo hi (Inner r p q) h o a b e
  focus k w lo hi (Inner r p q) h o a b (inr (inl on)) =
      let f = focus k (left r) lo (V.key r) p h.1 (inr (rw (own-left r) (omega arith))) a on.0 on.1 in
      let g = left-place k w lo hi r p q h o on.1 in
      record {
        part = f.part;
        low = f.low;
        high = f.high;
        is = f.is;
        outside = f.outside;
        above = f.above;
        below = f.below;
        from = f.from;
        to = omega (arith, f.to, h.0.high);
        ends = last-left V k w r p q on.0 ∙ f.ends;
        put = λ s i. put-left w lo hi r f.low f.high p q f.part s h g.0 g.1 g.2 f.to (f.put s i);
      }
  focus k w lo hi (Inner r p q) h o a b (inr (inr on)) =
      let f = focus k (right r) (V.key r) hi q h.2 (inl (rw (own-right r) (omega arith))) on.0 b on.1 in
      let g = right-place k w lo hi r p q h o on.1 in
      record {
        part = f.part;
        low = f.low;
        high = f.high;
        is = f.is;
        outside = f.outside;
        above = f.above;
        below = f.below;
        from = omega (arith, f.from, h.0.low);
        to = f.to;
        ends = last-right V k w r p q on.0 ∙ f.ends;
        put = λ s i. put-right w lo hi r f.low f.high p q f.part s h g.0 g.1 g.2 f.from (f.put s i);
      }
