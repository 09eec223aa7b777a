-- Flags into leaves and frozen bits beside flags may be set.
use Rattle.std.proofs.Common.{◌≡◌, ◌≢◌, ℕ, ◌≤◌, true, false, Some, None, inl, inr, refl, sym, ap, ◌∙◌, arith}
use Rattle.std.proofs.lemmas.Bool.{cases_eq, cases_Bool, eq-eqb, ne_eqb}
use Rattle.flit_model.specs.Trees.{Tree, Leaf, Inner}
use Rattle.flit_tree_heap.proofs.Context.{on-keys}
use Rattle.flit_tree_heap.proofs.Growths.{IsTree, last, said, Flags, Freezes}
use Rattle.flit_tree_heap.proofs.Moving.{root-row}
use Rattle.flit_tree_heap.proofs.Parts.{Bits}
use Rattle.flit_tree_heap.proofs.Words.{other-left, other-right}
use Rattle.flit_tree_heap.specs.Edges.{left, right, other}
use Rattle.flit_tree_heap.specs.Routes.{Reading, side, HasBit, Leads, here, ends, on}

-- what a leaf says
pub said-same : (V U : Reading) (k w w' : ℕ) → U.key (U.row w') ≡ V.key (V.row w) → U.value (U.row w') ≡ V.value (V.row w) → U.flag w' ≡ V.flag w →
    said U k w' ≡ said V k w
unfolding said
said-same V U k w w' ek ev ef = rw (ek, ev, ef) refl

pub said-some : (V : Reading) (k w : ℕ) → V.key (V.row w) ≡ k → V.flag w ≡ false → said V k w ≡ Some (V.value (V.row w))
unfolding said
said-some V k w e f = rw (eq-eqb (V.key (V.row w)) k e, f) refl

pub said-other : (V : Reading) (k w : ℕ) → V.key (V.row w) ≢ k → said V k w ≡ None
unfolding said
said-other V k w n = rw (ne_eqb (V.key (V.row w)) k n) refl

pub said-flagged : (V : Reading) (k w : ℕ) → V.flag w ≡ true → said V k w ≡ None
unfolding said
said-flagged V k w f = elim (cases_eq (V.key (V.row w)) k) [
  | inl e ↦ rw (eq-eqb (V.key (V.row w)) k e, f) refl
  | inr n ↦ rw (ne_eqb (V.key (V.row w)) k n) refl
]

module _ (V U : Reading) (B : Bits V U) where
  pub bits-last : (k w : ℕ) (t : Tree) → last U k w t ≡ last V k w t
  bits-last k w (Leaf r) = refl
  bits-last k w (Inner r a b) = rw (B.key r, bits-last k (left r) a, bits-last k (right r) b) refl

  stays : (w r : ℕ) → V.row w ≡ r → (V.flag w ≡ true → r ≢ 3) → U.flag w ≡ true → r ≢ 3
  stays w r n s e = elim (B.flag_new w e) [ inl f ↦ s f | inr f ↦ λ x. f.1 (n ∙ x) ]

  unflagged : (w r : ℕ) → V.row w ≡ r → 1 ≤ V.row (left r) → V.flag w ≡ false → U.flag w ≡ false
  unflagged w r n h f = elim (cases_Bool (U.flag w)) [
    | inl e ↦ elim (B.flag_new w e) [ inl g ↦ cc | inr g ↦ absurd (omega (arith, rw n at g.0)) ]
    | inr e ↦ e
  ]

  pub bits-tree : (w lo hi : ℕ) (t : Tree) → IsTree V w lo hi t → IsTree U w lo hi t
  bits-tree w lo hi (Leaf r) h = record {
    named = B.row w ∙ h.named;
    row = h.row;
    inside = rw B.rows h.inside;
    low = rw (B.key r) h.low;
    high = rw (B.key r) h.high;
    no_left = B.row (left r) ∙ h.no_left;
    no_right = B.row (right r) ∙ h.no_right;
    left_plain = let e = B.none (left r) h.no_left in (e.0 ∙ h.left_plain.0, e.1 ∙ h.left_plain.1);
    right_plain = let e = B.none (right r) h.no_right in (e.0 ∙ h.right_plain.0, e.1 ∙ h.right_plain.1);
    below = rw (B.key r) h.below;
    stays = stays w r h.named h.stays;
  }
  bits-tree w lo hi (Inner r a b) h = (
    record {
      named = B.row w ∙ h.0.named;
      row = h.0.row;
      inside = rw B.rows h.0.inside;
      low = rw (B.key r) h.0.low;
      high = rw (B.key r) h.0.high;
      unflagged = unflagged w r h.0.named (root-row V (left r) lo (V.key r) a h.1) h.0.unflagged;
      left_frozen = λ e. elim (B.left_frozen r h.0.row e) [ inl f ↦ B.flag_kept (right r) (h.0.left_frozen f) | inr f ↦ f ];
      right_frozen = λ e. elim (B.right_frozen r h.0.row e) [ inl f ↦ B.flag_kept (left r) (h.0.right_frozen f) | inr f ↦ f ];
    },
    rw (B.key r) (bits-tree (left r) lo (V.key r) a h.1),
    rw (B.key r) (bits-tree (right r) (V.key r) hi b h.2),
  )

  pub bits-said : (k w : ℕ) → U.flag w ≡ V.flag w → said U k w ≡ said V k w
  bits-said k w f = said-same V U k w w (ap U.key (B.row w) ∙ B.key (V.row w)) (ap U.value (B.row w) ∙ B.value (V.row w)) f

pub flag-bits : (V U : Reading) (w0 : ℕ) → Flags V U w0 → Bits V U
flag-bits V U w0 f = record {
  row = λ w. elim (cases_eq w w0) [ inl e ↦ rw e f.row | inr n ↦ f.writes.row w n ];
  key = f.writes.key;
  value = f.writes.value;
  rows = f.writes.rows;
  none = λ w e. let d : w ≢ w0 = λ x. omega (arith, ap V.row x, e, f.writes.edge) in (f.writes.flag w d, f.writes.frozen w d);
  flag_kept = λ w h. elim (cases_eq w w0) [ inl e ↦ rw e f.flagged | inr n ↦ f.writes.flag w n ∙ h ];
  frozen_kept = λ w h. elim (cases_eq w w0) [ inl e ↦ rw e f.frozen ∙ ap V.frozen (sym e) ∙ h | inr n ↦ f.writes.frozen w n ∙ h ];
  flag_new = λ w h. elim (cases_eq w w0) [ inl e ↦ rw e (inr (f.into_leaf, f.not_three)) | inr n ↦ inl (sym (f.writes.flag w n) ∙ h) ];
  left_frozen = λ r _ h. elim (cases_eq (left r) w0) [
    | inl e ↦ inl (rw e (sym f.frozen ∙ ap U.frozen (sym e) ∙ h))
    | inr n ↦
        inl (sym (f.writes.frozen (left r) n) ∙ h)
  ];
  right_frozen = λ r _ h. elim (cases_eq (right r) w0) [
    | inl e ↦ inl (rw e (sym f.frozen ∙ ap U.frozen (sym e) ∙ h))
    | inr n ↦
        inl (sym (f.writes.frozen (right r) n) ∙ h)
  ];
}

pub freeze-bits : (V U : Reading) (w0 : ℕ) → Freezes V U w0 → Bits V U
freeze-bits V U w0 f = record {
  row = λ w. elim (cases_eq w w0) [ inl e ↦ rw e f.row | inr n ↦ f.writes.row w n ];
  key = f.writes.key;
  value = f.writes.value;
  rows = f.writes.rows;
  none = λ w e. let d : w ≢ w0 = λ x. omega (arith, ap V.row x, e, f.writes.edge) in (f.writes.flag w d, f.writes.frozen w d);
  flag_kept = λ w h. same w ∙ h;
  frozen_kept = λ w h. elim (cases_eq w w0) [ inl e ↦ rw e f.frozen | inr n ↦ f.writes.frozen w n ∙ h ];
  flag_new = λ w h. inl (sym (same w) ∙ h);
  left_frozen = λ r p h. elim (cases_eq (left r) w0) [
    | inl e ↦ inr (same (right r) ∙ ap V.flag (sym (other-left r p) ∙ ap other e) ∙ f.sibling)
    | inr n ↦ inl (sym (f.writes.frozen (left r) n) ∙ h)
  ];
  right_frozen = λ r p h. elim (cases_eq (right r) w0) [
    | inl e ↦ inr (same (left r) ∙ ap V.flag (sym (other-right r p) ∙ ap other e) ∙ f.sibling)
    | inr n ↦ inl (sym (f.writes.frozen (right r) n) ∙ h)
  ];
} where
  same : (w : ℕ) → U.flag w ≡ V.flag w
  same w = elim (cases_eq w w0) [ inl e ↦ rw e f.flag | inr n ↦ f.writes.flag w n ]

-- who is led stays so
module _ (V U : Reading) (B : Bits V U) (t : Tree) where
  bits-side : (j r : ℕ) → side U j r ≡ side V j r
  bits-side j r = rw (B.key r) refl

  has-bit : (w : ℕ) → HasBit V w → HasBit U w
  has-bit w (inl f) = inl (B.flag_kept w f)
  has-bit w (inr f) = inr (B.frozen_kept w f)

  pub bits-leads : (j r : ℕ) → Leads V t j r → Leads U t j r
  bits-leads j r (here _ o) = here r (rw (bits-side j r) (on-keys V U B.key j (side V j r) 4 t o))
  bits-leads j r (ends _ b e) = ends r (rw (bits-side j r) (has-bit (side V j r) b))
      (rw (bits-side j r, B.row (side V j r)) (B.row (left (V.row (side V j r))) ∙ e))
  bits-leads j r (on _ s b e l) = on r s (rw (bits-side j r) (has-bit (side V j r) b)) (rw (bits-side j r) (B.row (side V j r) ∙ e)) (bits-leads j s l)
