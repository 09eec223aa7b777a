-- What the won exchanges make of a lawful image.
use Rattle.std.proofs.Common.{◌≡◌, ◌≢◌, ◌⊎◌, ℕ, ◌+◌, ◌<◌, ◌≤◌, false, List, Option, Some, None, inl, inr, refl, sym, ap, ◌∙◌, arith}
use Rattle.std.proofs.lemmas.Bool.{cases_eq, cases_lt, cases_Bool, lt-ltb, le-ltb}
use Rattle.flit_model.specs.Trees.{Tree, Leaf, Inner}
use Rattle.flit_tree_heap.proofs.Bits.{said-same, said-some, said-other, said-flagged, bits-last, bits-tree, bits-said, bits-leads, flag-bits, freeze-bits}
use Rattle.flit_tree_heap.proofs.Context.{focus, on-keys, on-first}
use Rattle.flit_tree_heap.proofs.Growths.{IsLeaf, IsInner, IsTree, InTree, last, said, found, Outside, Writes, IsLawful, Flags, Freezes, Links, Swings}
use Rattle.flit_tree_heap.specs.Walks.{inners}
use Rattle.flit_tree_heap.proofs.Moving.{root-row, last-left, last-right, leaf-move, move, move-found}
use Rattle.flit_tree_heap.proofs.Parts.{Bits}
use Rattle.flit_tree_heap.proofs.Splice.{none-flagged, splice}
use Rattle.flit_tree_heap.proofs.Ways.{IsCut, Drops, below, stops, over, Becomes, Remains}
use Rattle.flit_tree_heap.proofs.Words.{own-left, own-right, own-four}
use Rattle.flit_tree_heap.specs.Edges.{left, right, own}
use Rattle.flit_tree_heap.specs.Routes.{Reading, side, IsOnRoute, HasBit, Leads, here, ends, on}

-- where an edge on a route goes to a leaf, the route ends there
pub on-last : (V : Reading) (k w0 w lo hi : ℕ) (t : Tree) → IsTree V w lo hi t → IsOnRoute V k w0 w t → V.row (left (V.row w0)) ≡ 0 → last V k w t ≡ w0
on-last V k w0 w lo hi (Leaf r) h o e = o
on-last V k w0 w lo hi (Inner r a b) h (inl o) e = let x : V.row w0 ≡ r = ap V.row (sym o) ∙ h.0.named in
    absurd (omega (arith, root-row V (left r) lo (V.key r) a h.1, rw x at e))
on-last V k w0 w lo hi (Inner r a b) h (inr (inl o)) e = last-left V k w r a b o.0 ∙ on-last V k w0 (left r) lo (V.key r) a h.1 o.1 e
on-last V k w0 w lo hi (Inner r a b) h (inr (inr o)) e = last-right V k w r a b o.0 ∙ on-last V k w0 (right r) (V.key r) hi b h.2 o.1 e

-- the leaf where a route ends is row 3 or has a key below that of row 3
pub last-below : (V : Reading) (k w lo hi : ℕ) (t : Tree) → IsTree V w lo hi t → (V.row (last V k w t) ≡ 3) ⊎ (V.key (V.row (last V k w t)) < 4294967293)
last-below V k w lo hi (Leaf r) h = rw h.named h.below
last-below V k w lo hi (Inner r a b) h = elim (cases_lt k (V.key r)) [
  | inl c ↦ rw (last-left V k w r a b c) (last-below V k (left r) lo (V.key r) a h.1)
  | inr c ↦ rw (last-right V k w r a b c) (last-below V k (right r) (V.key r) hi b h.2)
]

-- an edge on a route is the first one or that of its row for the key
on-is-side : (V : Reading) (j v w lo hi : ℕ) (t : Tree) → IsOnRoute V j v w t → (w ≡ v) ⊎ (side V j (own v) ≡ v)
on-is-side V j v w lo hi (Leaf r) o = inl o
on-is-side V j v w lo hi (Inner r a b) (inl e) = inl e
on-is-side V j v w lo hi (Inner r a b) (inr (inl o)) = elim (on-is-side V j v (left r) lo hi a o.1) [
  | inl e ↦ inr (rw (← e, own-left r, lt-ltb j (V.key r) o.0) refl)
  | inr e ↦ inr e
]
on-is-side V j v w lo hi (Inner r a b) (inr (inr o)) = elim (on-is-side V j v (right r) lo hi b o.1) [
  | inl e ↦ inr (rw (← e, own-right r, le-ltb j (V.key r) o.0) refl)
  | inr e ↦ inr e
]

-- who is led stays so where a plain edge changes and routes lead on
module _ (V U : Reading) (w0 : ℕ) (W : Writes V U w0) (unflagged : V.flag w0 ≡ false) (unfrozen : V.frozen w0 ≡ false) where
  side-same : (j r : ℕ) → side U j r ≡ side V j r
  side-same j r = rw (W.key r) refl

  bit-off : (w : ℕ) → HasBit V w → w ≢ w0
  bit-off w (inl f) e = let x : V.flag w ≡ false = ap V.flag e ∙ unflagged in cc
  bit-off w (inr f) e = let x : V.frozen w ≡ false = ap V.frozen e ∙ unfrozen in cc

  bit-stays : (w : ℕ) → HasBit V w → HasBit U w
  bit-stays w (inl f) = inl (W.flag w (bit-off w (inl f)) ∙ f)
  bit-stays w (inr f) = inr (W.frozen w (bit-off w (inr f)) ∙ f)

  row-stays : (w : ℕ) → HasBit V w → U.row w ≡ V.row w
  row-stays w b = W.row w (bit-off w b)

  none-stays : (w : ℕ) → V.row w ≡ 0 → U.row w ≡ 0
  none-stays w e = W.row w (λ x. omega (arith, ap V.row x, W.edge)) ∙ e

  module _ (u : Tree) (j : ℕ) where
    ends-stays : (r : ℕ) → HasBit V (side V j r) → V.row (left (V.row (side V j r))) ≡ 0 → Leads U u j r
    ends-stays r b e = ends r (rw (side-same j r) (bit-stays (side V j r) b))
        (rw (side-same j r, row-stays (side V j r) b) (none-stays (left (V.row (side V j r))) e))

    on-stays : (r s : ℕ) → HasBit V (side V j r) → V.row (side V j r) ≡ s → Leads U u j s → Leads U u j r
    on-stays r s b e l = on r s (rw (side-same j r) (bit-stays (side V j r) b)) (rw (side-same j r) (row-stays (side V j r) b ∙ e)) l

    leads-stay : (t : Tree) → ((r : ℕ) → IsOnRoute V j (side V j r) 4 t → Leads U u j r) → (r : ℕ) → Leads V t j r → Leads U u j r
    leads-stay t route r (here _ o) = route r o
    leads-stay t route r (ends _ b e) = ends-stays r b e
    leads-stay t route r (on _ s b e l) = on-stays r s b e (leads-stay t route s l)

-- ---- a flag

pub flag-lawful : (V U : Reading) (w0 : ℕ) (t : Tree) → Flags V U w0 → IsLawful V t → IsLawful U t
flag-lawful V U w0 t f h =
    let B = flag-bits V U w0 f in
    let lw : last U 4294967293 4 t ≡ last V 4294967293 4 t = bits-last V U B 4294967293 4 t in
    record {
      is = bits-tree V U B 4 0 4294967294 t h.is;
      two = f.writes.key 2 ∙ h.two;
      top = elim (cases_eq 4 w0) [ inl e ↦ ap U.frozen e ∙ f.frozen ∙ ap V.frozen (sym e) ∙ h.top | inr n ↦ f.writes.frozen 4 n ∙ h.top ];
      three = elim (cases_eq (last V 4294967293 4 t) w0) [
        | inl e ↦ absurd (elim (last-below V 4294967293 4 0 4294967294 t h.is) [
          | inl x ↦ f.not_three (ap V.row (sym e) ∙ x)
          | inr x ↦ let n : found V 4294967293 4 t ≡ None = said-other V 4294967293 (last V 4294967293 4 t) (λ y. omega arith) in let s = h.three in cc
        ])
        | inr n ↦ rw lw (bits-said V U B 4294967293 (last V 4294967293 4 t) (f.writes.flag (last V 4294967293 4 t) n)) ∙ h.three
            ∙ ap Some (sym (f.writes.value 3))
      ];
    }

pub flag-step : (V U : Reading) (w0 k : ℕ) (t : Tree) → Flags V U w0 → IsLawful V t → IsOnRoute V k w0 4 t → V.key (V.row w0) ≡ k →
    (found V k 4 t ≡ Some (V.value (V.row w0))) × Becomes V U t k None
flag-step V U w0 k t f h o e =
    let B = flag-bits V U w0 f in
    let l : last V k 4 t ≡ w0 = on-last V k w0 4 0 4294967294 t h.is o f.into_leaf in (
      rw l (said-some V k w0 e f.was_plain),
      record {
        tree = t;
        lawful = flag-lawful V U w0 t f h;
        now = rw (bits-last V U B k 4 t, l) (said-flagged U k w0 f.flagged);
        others = λ j _ n. rw (bits-last V U B j 4 t) (elim (cases_eq (last V j 4 t) w0) [
          | inl x ↦ rw x (said-flagged U j w0 f.flagged ∙ sym (said-other V j w0 (λ y. n (sym y ∙ e))))
          | inr x ↦ bits-said V U B j (last V j 4 t) (f.writes.flag (last V j 4 t) x)
        ]);
        leads = λ j r _. bits-leads V U B t j r;
        routes = λ j v _. on-keys V U f.writes.key j v 4 t;
        rows = λ r x. x;
        count = omega arith;
      },
    )

-- ---- a frozen bit

pub freeze-step : (V U : Reading) (E : ℕ → Type 0) (w0 : ℕ) (t : Tree) → Freezes V U w0 → IsLawful V t → Remains V U E t 0
freeze-step V U E w0 t f h = record {
  tree = t;
  lawful = record {
    is = bits-tree V U B 4 0 4294967294 t h.is;
    two = f.writes.key 2 ∙ h.two;
    top = f.writes.frozen 4 (λ e. f.not_top (sym e)) ∙ h.top;
    three = same 4294967293 ∙ h.three ∙ ap Some (sym (f.writes.value 3));
  };
  same = λ j _. same j;
  leads = λ j r _. bits-leads V U B t j r;
  routes = λ j v _ o. inl (on-keys V U f.writes.key j v 4 t o);
  rows = λ r x. inl x;
  count = omega arith;
} where
  B : Bits V U
  B = freeze-bits V U w0 f

  flags : (w : ℕ) → U.flag w ≡ V.flag w
  flags w = elim (cases_eq w w0) [ inl e ↦ rw e f.flag | inr n ↦ f.writes.flag w n ]

  same : (j : ℕ) → found U j 4 t ≡ found V j 4 t
  same j = rw (bits-last V U B j 4 t) (bits-said V U B j (last V j 4 t) (flags (last V j 4 t)))

-- ---- a link

-- what a new tree at an edge says of k
record Fresh (V U : Reading) (w0 low high k b : ℕ) (x : Option ℕ) (part : Tree) : Type 0 where
  new : Tree
  has : InTree b new
  is : IsTree U w0 low high new
  before : found V k w0 part ≡ None
  now : found U k w0 new ≡ x
  others : (j : ℕ) → j ≢ k → found U j w0 new ≡ found V j w0 part
  edge : (j v : ℕ) → IsOnRoute V j v w0 part → w0 ≡ v
  none : (r : ℕ) → InTree r part → ⊥
  size : inners new ≡ inners part + 1

module _ (V U : Reading) (w0 k b a : ℕ) (L : Links V U w0 k b a) where
  left-off : left b ≢ w0
  left-off e = L.apart (ap own (sym e) ∙ own-left b)

  right-off : right b ≢ w0
  right-off e = L.apart (ap own (sym e) ∙ own-right b)

  left-plain : U.flag (left b) ≡ false
  left-plain = L.writes.flag (left b) left-off ∙ L.left_unflagged

  right-plain : U.flag (right b) ≡ false
  right-plain = L.writes.flag (right b) right-off ∙ L.right_unflagged

  -- the leaf a below b
  leaf-a : (w lo hi : ℕ) → U.row w ≡ a → U.flag w ≡ false → lo ≤ k → k < hi → IsLeaf U w lo hi a
  leaf-a w lo hi n f l g = let e : U.key a ≡ k = L.writes.key a ∙ L.a_key in record {
    named = n;
    row = L.a_row;
    inside = rw L.writes.rows L.a_inside;
    low = omega (arith, e);
    high = omega (arith, e);
    no_left = L.writes.row (left a) (λ x. omega (arith, ap V.row x, L.a_left, L.writes.edge)) ∙ L.a_left;
    no_right = L.writes.row (right a) (λ x. omega (arith, ap V.row x, L.a_right, L.writes.edge)) ∙ L.a_right;
    left_plain = let d : left a ≢ w0 = λ x. omega (arith, ap V.row x, L.a_left, L.writes.edge) in
        (L.writes.flag (left a) d ∙ L.a_left_plain.0, L.writes.frozen (left a) d ∙ L.a_left_plain.1);
    right_plain = let d : right a ≢ w0 = λ x. omega (arith, ap V.row x, L.a_right, L.writes.edge) in
        (L.writes.flag (right a) d ∙ L.a_right_plain.0, L.writes.frozen (right a) d ∙ L.a_right_plain.1);
    below = inr (rw e L.below);
    stays = λ x. cc;
  }

  inner-b : (low high K : ℕ) → V.key b ≡ K → low < K → K < high → IsInner U w0 low high b
  inner-b low high K e l g = record {
    named = L.named;
    row = L.b_row;
    inside = rw L.writes.rows L.b_inside;
    low = rw (L.writes.key b ∙ e) l;
    high = rw (L.writes.key b ∙ e) g;
    unflagged = L.unflagged;
    left_frozen = λ x. let y = L.writes.frozen (left b) left-off ∙ L.left_unfrozen in cc;
    right_frozen = λ x. let y = L.writes.frozen (right b) right-off ∙ L.right_unfrozen in cc;
  }

  -- what the two leaves say
  says-a : (j w : ℕ) → U.row w ≡ a → U.flag w ≡ false → j ≢ k → said U j w ≡ None
  says-a j w n f d = said-other U j w (λ e. d (sym e ∙ ap U.key n ∙ L.writes.key a ∙ L.a_key))

  says-k : (w : ℕ) → U.row w ≡ a → U.flag w ≡ false → said U k w ≡ Some (V.value a)
  says-k w n f = said-some U k w (ap U.key n ∙ L.writes.key a ∙ L.a_key) f ∙ ap Some (ap U.value n ∙ L.writes.value a)

  says-old : (j w : ℕ) → U.row w ≡ V.row w0 → U.flag w ≡ false → said U j w ≡ said V j w0
  says-old j w n f = said-same V U j w0 w (ap U.key n ∙ L.writes.key (V.row w0)) (ap U.value n ∙ L.writes.value (V.row w0)) (f ∙ sym L.was_unflagged)

  link-at : (low high : ℕ) (part : Tree) → IsTree V w0 low high part → low ≤ k → k < high → Fresh V U w0 low high k b (Some (V.value a)) part
  link-at low high (Inner r p q) h c d = absurd (omega (arith, root-row V (left r) low (V.key r) p h.1, rw h.0.named at L.into_leaf))
  link-at low high (Leaf r) h c d = elim L.order [
    | inl o ↦
        let e : V.key (V.row w0) ≡ V.key r = ap V.key h.named in
        let na : U.row (left b) ≡ a = L.writes.row (left b) left-off ∙ o.2 in
        let nl : U.row (right b) ≡ V.row w0 = L.writes.row (right b) right-off ∙ o.3 in
        let kb : U.key b ≡ V.key r = L.writes.key b ∙ o.1 ∙ e in
        record {
          new = Inner b (Leaf a) (Leaf r);
          has = inl refl;
          is = (
            inner-b low high (V.key r) (o.1 ∙ e) (omega (arith, o.0)) (omega (arith, h.high)),
            leaf-a (left b) low (U.key b) na left-plain c (omega (arith, o.0)),
            leaf-move V U w0 L.writes w0 (right b) low high (U.key b) high r h nl (right-plain ∙ sym L.was_unflagged) (omega arith) (omega (arith, h.high)),
          );
          before = said-other V k w0 (λ x. omega (arith, o.0));
          now = rw (last-left U k w0 b (Leaf a) (Leaf r) (omega (arith, o.0))) (says-k (left b) na left-plain);
          others = λ j n. elim (cases_lt j (U.key b)) [
            | inl y ↦ rw (last-left U j w0 b (Leaf a) (Leaf r) y) (says-a j (left b) na left-plain n ∙ sym (said-other V j w0 (λ x. omega arith)))
            | inr y ↦ rw (last-right U j w0 b (Leaf a) (Leaf r) y) (says-old j (right b) nl right-plain)
          ];
          edge = λ j v z. z;
          none = λ q z. z;
          size = omega arith;
        }
    | inr o ↦
        let e : V.key (V.row w0) ≡ V.key r = ap V.key h.named in
        let nl : U.row (left b) ≡ V.row w0 = L.writes.row (left b) left-off ∙ o.2 in
        let na : U.row (right b) ≡ a = L.writes.row (right b) right-off ∙ o.3 in
        let kb : U.key b ≡ k = L.writes.key b ∙ o.1 in
        record {
          new = Inner b (Leaf r) (Leaf a);
          has = inl refl;
          is = (
            inner-b low high k o.1 (omega (arith, o.0, h.low)) d,
            leaf-move V U w0 L.writes w0 (left b) low high low (U.key b) r h nl (left-plain ∙ sym L.was_unflagged) (omega (arith, h.low)) (omega (arith, o.0)),
            leaf-a (right b) (U.key b) high na right-plain (omega arith) d,
          );
          before = said-other V k w0 (λ x. omega (arith, o.0));
          now = rw (last-right U k w0 b (Leaf r) (Leaf a) (omega arith)) (says-k (right b) na right-plain);
          others = λ j n. elim (cases_lt j (U.key b)) [
            | inl y ↦ rw (last-left U j w0 b (Leaf r) (Leaf a) y) (says-old j (left b) nl left-plain)
            | inr y ↦ rw (last-right U j w0 b (Leaf r) (Leaf a) y) (says-a j (right b) na right-plain n ∙ sym (said-other V j w0 (λ x. omega (arith, o.0))))
          ];
          edge = λ j v z. z;
          none = λ q z. z;
          size = omega arith;
        }
  ]

  pub link-step : (t : Tree) → IsLawful V t → IsOnRoute V k w0 4 t → (found V k 4 t ≡ None) × ((B : Becomes V U t k (Some (V.value a))) × InTree b B.tree)
  link-step t h o0 =
      let top : Outside V 4 0 4294967294 = inr (rw (own-four, h.two) (omega arith)) in
      let f = focus V U w0 L.writes L.unfrozen L.was_unflagged k 4 0 4294967294 t h.is top (omega arith) (omega (arith, L.below)) o0 in
      let n = link-at f.low f.high f.part f.is f.above f.below in
      let p = f.put n.new n.is in
      let same : (j : ℕ) → j < 4294967294 → j ≢ k → found U j 4 p.tree ≡ found V j 4 t = λ j b d. elim (p.gives j (omega arith) b) [
        | inl g ↦ g.3 ∙ n.others j d ∙ sym g.2
        | inr g ↦ g.1
      ] in
      let routes : (j v : ℕ) → j < 4294967294 → IsOnRoute V j v 4 t → IsOnRoute U j v 4 p.tree = λ j v b o. elim (p.keeps j v (omega arith) b o) [
        | inl x ↦ x
        | inr x ↦ p.lifts j v x.0 x.1 (on-first U j v w0 n.new (n.edge j v x.2))
      ] in (
        elim (p.gives k (omega arith) (omega (arith, L.below))) [
          | inl g ↦ g.2
              ∙ n.before
          | inr g ↦ absurd (elim g.0 [ inl x ↦ omega (arith, f.above) | inr x ↦ omega (arith, f.below) ])
        ],
        (
          record {
            tree = p.tree;
            lawful = record {
              is = p.is;
              two = L.writes.key 2 ∙ h.two;
              top = elim (cases_eq 4 w0) [ inl e ↦ rw e L.unfrozen | inr n ↦ L.writes.frozen 4 n ∙ h.top ];
              three = same 4294967293 (omega arith) (λ e. omega (arith, L.below)) ∙ h.three ∙ ap Some (sym (L.writes.value 3));
            };
            now = elim (p.gives k (omega arith) (omega (arith, L.below)))
                [ inl g ↦ g.3 ∙ n.now | inr g ↦ absurd (elim g.0 [ inl x ↦ omega (arith, f.above) | inr x ↦ omega (arith, f.below) ]) ];
            others = same;
            routes = routes;
            rows = λ r x. elim (p.rows r x) [ inl y ↦ y | inr z ↦ absurd (n.none r z) ];
            count = omega (arith, p.count, n.size);
            leads = λ j r b l. leads-stay V U w0 L.writes L.was_unflagged L.was_unfrozen p.tree j t
                (λ q o. here q (rw (side-same V U w0 L.writes L.was_unflagged L.was_unfrozen j q) (routes j (side V j q) b o))) r l;
          },
          p.brings b n.has,
        ),
      )

-- ---- a swing

-- routes within a part that hangs elsewhere
on-moved : (V U : Reading) → ((r : ℕ) → U.key r ≡ V.key r) → (j v g w : ℕ) (t : Tree) → IsOnRoute V j v g t → v ≢ g → IsOnRoute U j v w t
on-moved V U e j v g w (Leaf r) o n = absurd (n (sym o))
on-moved V U e j v g w (Inner r a b) (inl o) n = absurd (n (sym o))
on-moved V U e j v g w (Inner r a b) (inr (inl o)) n = inr (inl (rw (e r) o.0, on-keys V U e j v (left r) a o.1))
on-moved V U e j v g w (Inner r a b) (inr (inr o)) n = inr (inr (rw (e r) o.0, on-keys V U e j v (right r) b o.1))

module _ (V U : Reading) (E : ℕ → Type 0) (w0 k g : ℕ) (rows : List ℕ) (S : Swings V U E w0 k g rows) where
  cut-bit : (w : ℕ) → IsCut V w → HasBit V w
  cut-bit w (inl f) = inr f
  cut-bit w (inr f) = inl f.0

  -- rows that are dropped lead on
  drop-leads : (part u : Tree) (j : ℕ) → ((v : ℕ) → IsOnRoute U j v w0 part → IsOnRoute U j v 4 u) → (r : ℕ) → Drops V g part j r → Leads U u j r
  drop-leads part u j lift r (below _ o n) = here r (rw (side-same V U w0 S.writes S.was_unflagged S.was_unfrozen j r)
      (lift (side V j r) (on-moved V U S.writes.key j (side V j r) g w0 part o n)))
  drop-leads part u j lift r (stops _ b e) = ends-stays V U w0 S.writes S.was_unflagged S.was_unfrozen u j r (cut-bit (side V j r) b) e
  drop-leads part u j lift r (over _ s b e l) = on-stays V U w0 S.writes S.was_unflagged S.was_unfrozen u j r s (cut-bit (side V j r) b) e
      (drop-leads part u j lift s l)

  drop-route : (part u : Tree) (j : ℕ) → ((v : ℕ) → IsOnRoute U j v w0 part → IsOnRoute U j v 4 u) → (r : ℕ) → Drops V g part j r →
      IsOnRoute U j (side V j r) 4 u ⊎ IsCut V (side V j r)
  drop-route part u j lift r (below _ o n) = inl (lift (side V j r) (on-moved V U S.writes.key j (side V j r) g w0 part o n))
  drop-route part u j lift r (stops _ b e) = inr b
  drop-route part u j lift r (over _ s b e l) = inr b

  pub swing-step : (t : Tree) → IsLawful V t → k < 4294967294 → IsOnRoute V k w0 4 t → Remains V U E t 1
  swing-step t h kb o0 =
      let top : Outside V 4 0 4294967294 = inr (rw (own-four, h.two) (omega arith)) in
      let f = focus V U w0 S.writes S.unfrozen S.was_unflagged k 4 0 4294967294 t h.is top (omega arith) kb o0 in
      let s = splice V E k g w0 f.low f.high f.part (V.row w0) rows f.is refl S.trail in
      let o : Outside V w0 s.low s.high = elim f.outside [ inl x ↦ inl (omega (arith, s.from)) | inr x ↦ inr (omega (arith, s.to)) ] in
      let p = f.put s.part (move V U w0 S.writes g w0 s.low s.high f.low f.high s.part s.is o S.row S.flag s.from s.to) in
      let same : (j : ℕ) → j < 4294967294 → found U j 4 p.tree ≡ found V j 4 t = λ j b. elim (p.gives j (omega arith) b) [
        | inl q ↦ q.3 ∙ move-found V U w0 S.writes j g w0 s.low s.high s.part s.is o S.row S.flag ∙ sym (s.gives j) ∙ sym q.2
        | inr q ↦ q.1
      ] in
      let here_again : (j v : ℕ) → f.low ≤ j → j < f.high → w0 ≡ v → IsOnRoute U j v 4 p.tree = λ j v a b e. p.lifts j v a b (on-first U j v w0 s.part e) in
      record {
        tree = p.tree;
        lawful = record {
          is = p.is;
          two = S.writes.key 2 ∙ h.two;
          top = elim (cases_eq 4 w0) [ inl e ↦ rw e S.unfrozen | inr n ↦ S.writes.frozen 4 n ∙ h.top ];
          three = same 4294967293 (omega arith) ∙ h.three ∙ ap Some (sym (S.writes.value 3));
        };
        same = same;
        leads = λ j r b l. leads-stay V U w0 S.writes S.was_unflagged S.was_unfrozen p.tree j t (λ q x. elim (p.keeps j (side V j q) (omega arith) b x) [
          | inl y ↦ here q (rw (side-same V U w0 S.writes S.was_unflagged S.was_unfrozen j q) y)
          | inr y ↦ elim (cases_eq w0 (side V j q)) [
            | inl e ↦ here q (rw (side-same V U w0 S.writes S.was_unflagged S.was_unfrozen j q) (here_again j (side V j q) y.0 y.1 e))
            | inr d ↦ drop-leads s.part p.tree j (λ v. p.lifts j v y.0 y.1) q (s.drops j q y.2 (λ z. d (sym z)))
          ]
        ]) r l;
        rows = λ r x. elim (p.rows r x) [
          | inl y ↦ inl y
          | inr z ↦ elim (s.gone r z) [ inl y ↦ inl (p.brings r y) | inr y ↦ inr y ]
        ];
        count = omega (arith, p.count, s.fewer);
        routes = λ j v b x. elim (p.keeps j v (omega arith) b x) [
          | inl y ↦ inl y
          | inr y ↦ elim (on-is-side V j v w0 f.low f.high f.part y.2) [
            | inl e ↦ inl (here_again j v y.0 y.1 e)
            | inr e ↦ elim (cases_eq w0 v) [
              | inl z ↦ inl (here_again j v y.0 y.1 z)
              | inr d ↦ rw e at (drop-route s.part p.tree j (λ q. p.lifts j q y.0 y.1) (own v) (s.drops j (own v) (rw e y.2) (λ z. d (sym z ∙ e))))
            ]
          ]
        ];
      }

-- word 4 has no flag
pub top-plain : (V : Reading) (t : Tree) → IsLawful V t → V.flag 4 ≡ false
top-plain V t h = elim (cases_Bool (V.flag 4)) [
  | inl e ↦ let n = none-flagged V 4294967293 4 0 4294967294 t h.is e in let s = h.three in cc
  | inr e ↦ e
]
