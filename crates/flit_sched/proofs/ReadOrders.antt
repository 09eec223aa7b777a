-- The order of reads, and reads of one position among reads in order.
use Rattle.std.proofs.Common.{◌≡◌, ℕ, suc, ◌+◌, ◌<◌, ◌≤◌, ◌==◌, Bool, true, false, not, ◌&&◌, ◌||◌, nat_lt, nat_le, nat_cmp, cond, List, [], ◌∷◌, map, filter, length, get_or, add-one, refl, sym, ap, ◌∙◌, arith, Ordering, ◌⊎◌, inl, inr}
use Rattle.std.specs.Ordering.{is_lt, ordering_then}
use Rattle.std.specs.declared.cmp.Ordering.TheVariants.{Less, Equal, Greater}
use Rattle.std.specs.Cmp.{nat_cmp_is}
use Rattle.std.specs.List.Sorted.{ties}
use Rattle.std.proofs.lemmas.Bool.{cases_order, lt-ltb, le-ltb, eq-eqb, ne_eqb, eqb-true, leb-true, le-leb}
use Rattle.std.proofs.lemmas.Bool.Decides.{leb_tells}
use Rattle.flit_model.specs.declared.calls.Entry.{Entry}
use Rattle.flit_model.specs.declared.calls.Placed.{Placed}
use Rattle.flit_model.specs.Histories.{stands_before, put_in_order, in_order, reads_at}
use Rattle.flit_sched.specs.Histories.{placed_before, put_by, placed_in_order, front_at, behind_front}
use Rattle.flit_sched.proofs.StableOrders.{IsOrder, Below, Up, tie, up_sorted, stable_sort}

none_true : false ≡ true → ⊥
none_true h = cc

-- ---- an order by a number, and then by another order

abbrev pub by_number : ℕ → ℕ → Bool → Bool
by_number a b c = nat_lt a b || ((a == b) && c)

by_lt : (a b : ℕ) (c : Bool) → a < b → by_number a b c ≡ true
by_lt a b c l = ap (λ t. t || ((a == b) && c)) (lt-ltb a b l)

by_gt : (a b : ℕ) (c : Bool) → b < a → by_number a b c ≡ false
by_gt a b c l = ap (λ t. t || ((a == b) && c)) (le-ltb a b (omega arith)) ∙ ap (λ t. t && c) (ne_eqb a b (λ e. absurd (omega arith)))

by_same : (a b : ℕ) (c : Bool) → a ≡ b → by_number a b c ≡ c
by_same a b c e = ap (λ t. t || ((a == b) && c)) (le-ltb a b (omega arith)) ∙ ap (λ t. t && c) (eq-eqb a b e)

by_told : (a b : ℕ) (c : Bool) → by_number a b c ≡ true → (a < b) ⊎ ((a ≡ b) × (c ≡ true))
by_told a b c h = elim (cases_order a b) [
  | inl e ↦ inr (e, sym (by_same a b c e) ∙ h)
  | inr o ↦ elim o [
    | inl l ↦ inl l
    | inr l ↦ absurd (none_true (sym (by_gt a b c l) ∙ h))
  ]
]

pub total_then : (a b : ℕ) (c d : Bool) → (c ≡ false → d ≡ true) → by_number a b c ≡ false → by_number b a d ≡ true
total_then a b c d h f = elim (cases_order a b) [
  | inl e ↦ by_same b a d (sym e) ∙ h (sym (by_same a b c e) ∙ f)
  | inr o ↦ elim o [
    | inl l ↦ absurd (none_true (sym f ∙ by_lt a b c l))
    | inr l ↦ by_lt b a d l
  ]
]

pub on_then : (a b c : ℕ) (p q r : Bool) → (p ≡ true → q ≡ true → r ≡ true) → by_number a b p ≡ true → by_number b c q ≡ true → by_number a c r ≡ true
on_then a b c p q r h e f = elim (by_told a b p e) [
  | inl l ↦ elim (by_told b c q f) [
    | inl m ↦ by_lt a c r (omega arith)
    | inr m ↦ let same = m.0 in by_lt a c r (omega arith)
  ]
  | inr l ↦ elim (by_told b c q f) [
    | inl m ↦ let same = l.0 in by_lt a c r (omega arith)
    | inr m ↦ by_same a c r (l.0 ∙ m.0) ∙ h l.1 m.1
  ]
]

pub own_then : (a : ℕ) (c : Bool) → c ≡ true → by_number a a c ≡ true
own_then a c h = by_same a a c refl ∙ h

total_le : (a b : ℕ) → nat_le a b ≡ false → nat_le b a ≡ true
total_le a b f = elim (leb_tells a b) [
  | inl t ↦ absurd (none_true (sym f ∙ t.0))
  | inr t ↦ let l = t.1 in le-leb b a (omega arith)
]

on_le : (a b c : ℕ) → nat_le a b ≡ true → nat_le b c ≡ true → nat_le a c ≡ true
on_le a b c e f =
    let l : a ≤ b = leb-true a b e in
    let m : b ≤ c = leb-true b c f in
    le-leb a c (omega arith)

own_le : (a : ℕ) → nat_le a a ≡ true
own_le a = le-leb a a (omega arith)

pub placed_order : IsOrder placed_before
placed_order = record {
  total = λ q r. total_then q.position r.position _ _ (total_then q.entry.worker r.entry.worker _ _ (total_le q.entry.number r.entry.number));
  on = λ q r s. on_then q.position r.position s.position _ _ _ (on_then q.entry.worker r.entry.worker s.entry.worker _ _ _
      (on_le q.entry.number r.entry.number s.entry.number));
  own = λ r. own_then r.position _ (own_then r.entry.worker _ (own_le r.entry.number));
}

-- ---- the same by comparisons

pub not_below_then : (a b : ℕ) (o : Ordering) (c : Bool) → not (is_lt o) ≡ c → not (is_lt (ordering_then (nat_cmp a b) o)) ≡ by_number b a c
not_below_then a b o c h = elim (cases_order a b) [
  | inl e ↦ ap (λ r. not (is_lt (ordering_then r o))) (sym (nat_cmp_is a b Equal e)) ∙ h ∙ sym (by_same b a c (sym e))
  | inr w ↦ elim w [
    | inl l ↦ ap (λ r. not (is_lt (ordering_then r o))) (sym (nat_cmp_is a b Less l)) ∙ sym (by_gt b a c l)
    | inr l ↦ ap (λ r. not (is_lt (ordering_then r o))) (sym (nat_cmp_is a b Greater l)) ∙ sym (by_lt b a c l)
  ]
]

not_below : (a b : ℕ) → not (is_lt (nat_cmp a b)) ≡ nat_le b a
not_below a b = elim (cases_order a b) [
  | inl e ↦ ap (λ r. not (is_lt r)) (sym (nat_cmp_is a b Equal e)) ∙ sym (le-leb b a (omega arith))
  | inr w ↦ elim w [
    | inl l ↦ ap (λ r. not (is_lt r)) (sym (nat_cmp_is a b Less l)) ∙ sym (lt-leb b a l)
    | inr l ↦ ap (λ r. not (is_lt r)) (sym (nat_cmp_is a b Greater l)) ∙ sym (le-leb b a (omega arith))
  ]
]
  where
    lt-leb : (m n : ℕ) → n < m → nat_le m n ≡ false
    lt-leb m n l = elim (leb_tells m n) [
      | inl t ↦ let k = t.1 in absurd (omega arith)
      | inr t ↦ t.0
    ]

pub not_below_key : (q r : Placed) → not (is_lt (ordering_then (nat_cmp q.position r.position)
    (ordering_then (nat_cmp q.entry.worker r.entry.worker) (nat_cmp q.entry.number r.entry.number)))) ≡ placed_before r q
not_below_key q r = not_below_then q.position r.position _ _ (not_below_then q.entry.worker r.entry.worker _ _ (not_below q.entry.number r.entry.number))

-- how the keys of two reads compare
abbrev pub compare_reads : Placed → Placed → Ordering
compare_reads q r = ordering_then (ordering_then (nat_cmp q.position r.position) (nat_cmp q.entry.worker r.entry.worker))
    (nat_cmp q.entry.number r.entry.number)

then_then : (a b c : Ordering) → ordering_then (ordering_then a b) c ≡ ordering_then a (ordering_then b c)
then_then Less b c = refl
then_then Equal b c = refl
then_then Greater b c = refl

not_before : (q r : Placed) → not (is_lt (compare_reads q r)) ≡ placed_before r q
not_before q r = ap (λ o. not (is_lt o)) (then_then (nat_cmp q.position r.position) (nat_cmp q.entry.worker r.entry.worker)
    (nat_cmp q.entry.number r.entry.number)) ∙ not_below_key q r

-- what a stable sort by these keys leaves
pub sorted_reads_are : (xs ys : List Placed) → ((k : ℕ) (d : Placed) → 0 ≤ k → k + 1 < length ys →
    is_lt (compare_reads (get_or ys (k + 1) d) (get_or ys k d)) ≡ false)
    → ((x : Placed) → filter (ties (λ q r. is_lt (compare_reads q r)) x) ys ≡ filter (ties (λ q r. is_lt (compare_reads q r)) x) xs) → ys ≡ placed_in_order xs
sorted_reads_are xs ys up still =
    let same : (x : Placed) → ties (λ q r. is_lt (compare_reads q r)) x ≡ tie placed_before x = λ x i y. not_before x y i && not_before y x i in
    stable_sort placed_before placed_order xs ys
    (λ k d b. sym (not_before (get_or ys (suc k) d) (get_or ys k d)) ∙ ap (λ n. not (is_lt (compare_reads (get_or ys n d) (get_or ys k d)))) (sym (add-one k))
    ∙ ap not (up k d (omega arith) (omega arith)))
    (λ x. sym (ap (λ t. filter t ys) (same x)) ∙ still x ∙ ap (λ t. filter t xs) (same x))

-- ---- reads of one position

abbrev pub those_at : ℕ → List Placed → List Entry
those_at n rs = map (λ r. r.entry) (filter (λ r. r.position == n) rs)

same_of : (a b : ℕ) → (a == b) ≡ true → a ≡ b
same_of a b e = eqb-true a b e

not_same_of : (a b : ℕ) → (a ≡ b → ⊥) → (a == b) ≡ false
not_same_of a b h = ne_eqb a b h

here_then : (a : ℕ) (c : Bool) → by_number a a c ≡ c
here_then a c = by_same a a c refl

at_same : (q r : Placed) (n : ℕ) → (q.position == n) ≡ true → (r.position == n) ≡ true → placed_before q r ≡ stands_before q.entry r.entry
at_same q r n h k =
    let e : q.position ≡ r.position = same_of q.position n h ∙ sym (same_of r.position n k) in
    ap (λ p. by_number p r.position (stands_before q.entry r.entry)) e ∙ here_then r.position (stands_before q.entry r.entry)

front_if : (e z : Entry) (l : List Entry) (b : Bool) → stands_before e z ≡ b → (b ≡ true) → put_in_order e (z ∷ l) ≡ e ∷ z ∷ l
front_if e z l b is so = ap (λ c. cond c (e ∷ z ∷ l) (z ∷ put_in_order e l)) (is ∙ so)

module _ (n : ℕ) (r : Placed) (here : (r.position == n) ≡ true) where
  -- a read that stands before all others of its position
  put_front_if : (q : Placed) (qs : List Placed) (b : Bool) → (q.position == n) ≡ b → placed_before r q ≡ true
      → put_in_order r.entry (those_at n qs) ≡ r.entry ∷ those_at n qs
      → put_in_order r.entry (map (λ p. p.entry) (cond b (q ∷ filter (λ p. p.position == n) qs) (filter (λ p. p.position == n) qs)))
      ≡ r.entry ∷ map (λ p. p.entry) (cond b (q ∷ filter (λ p. p.position == n) qs) (filter (λ p. p.position == n) qs))
  put_front_if q qs true e h k = front_if r.entry q.entry (those_at n qs) _ refl (sym (at_same r q n here e) ∙ h)
  put_front_if q qs false e h k = k

  put_front : (qs : List Placed) → Below placed_before r qs → put_in_order r.entry (those_at n qs) ≡ r.entry ∷ those_at n qs
  put_front [] h = refl
  put_front (q ∷ qs) h = put_front_if q qs (q.position == n) refl h.0 (put_front qs h.1)

  behind_if : (q : Placed) (qs later : List Placed) (b : Bool) → (q.position == n) ≡ b → placed_before r q ≡ false
      → those_at n later ≡ put_in_order r.entry (those_at n qs)
      → map (λ p. p.entry) (cond b (q ∷ filter (λ p. p.position == n) later) (filter (λ p. p.position == n) later))
      ≡ put_in_order r.entry (map (λ p. p.entry) (cond b (q ∷ filter (λ p. p.position == n) qs) (filter (λ p. p.position == n) qs)))
  behind_if q qs later true e h k =
      ap (λ l. q.entry ∷ l) k
      ∙ sym (ap (λ c. cond c (r.entry ∷ q.entry ∷ those_at n qs) (q.entry ∷ put_in_order r.entry (those_at n qs))) (sym (at_same r q n here e) ∙ h))
  behind_if q qs later false e h k = k

  put_at_if : (q : Placed) (qs later : List Placed) (b : Bool) → placed_before r q ≡ b → Up placed_before (q ∷ qs)
      → those_at n later ≡ put_in_order r.entry (those_at n qs)
      → those_at n (cond b (r ∷ q ∷ qs) (q ∷ later)) ≡ put_in_order r.entry (those_at n (q ∷ qs))
  put_at_if q qs later true e up k =
      ap (λ c. map (λ p. p.entry) (cond c (r ∷ filter (λ p. p.position == n) (q ∷ qs)) (filter (λ p. p.position == n) (q ∷ qs)))) here
      ∙ sym (put_front (q ∷ qs) (e, below_all e qs up.0))
    where
      below_all : placed_before r q ≡ true → (ps : List Placed) → Below placed_before q ps → Below placed_before r ps
      below_all f [] h = tt
      below_all f (p ∷ ps) h = (placed_order.on r q p f h.0, below_all f ps h.1)
  put_at_if q qs later false e up k = behind_if q qs later (q.position == n) refl e k

  put_at : (qs : List Placed) → Up placed_before qs → those_at n (put_by placed_before r qs) ≡ put_in_order r.entry (those_at n qs)
  put_at [] up = ap (λ c. map (λ p. p.entry) (cond c (r ∷ []) [])) here
  put_at (q ∷ qs) up = put_at_if q qs (put_by placed_before r qs) (placed_before r q) refl up (put_at qs up.1)

module _ (n : ℕ) (r : Placed) (elsewhere : (r.position == n) ≡ false) where
  skip : (qs : List Placed) → those_at n (r ∷ qs) ≡ those_at n qs
  skip qs = ap (λ c. map (λ p. p.entry) (cond c (r ∷ filter (λ p. p.position == n) qs) (filter (λ p. p.position == n) qs))) elsewhere

  put_elsewhere_if : (q : Placed) (qs later : List Placed) (b : Bool) → those_at n later ≡ those_at n qs →
      those_at n (cond b (r ∷ q ∷ qs) (q ∷ later)) ≡ those_at n (q ∷ qs)
  put_elsewhere_if q qs later true k = skip (q ∷ qs)
  put_elsewhere_if q qs later false k = same (q.position == n)
    where
      same : (b : Bool) → map (λ p. p.entry) (cond b (q ∷ filter (λ p. p.position == n) later) (filter (λ p. p.position == n) later))
          ≡ map (λ p. p.entry) (cond b (q ∷ filter (λ p. p.position == n) qs) (filter (λ p. p.position == n) qs))
      same true = ap (λ l. q.entry ∷ l) k
      same false = k

  put_elsewhere : (qs : List Placed) → those_at n (put_by placed_before r qs) ≡ those_at n qs
  put_elsewhere [] = skip []
  put_elsewhere (q ∷ qs) = put_elsewhere_if q qs (put_by placed_before r qs) (placed_before r q) (put_elsewhere qs)

sorted_at_if : (n : ℕ) (r : Placed) (rs : List Placed) (b : Bool) → (r.position == n) ≡ b → those_at n (placed_in_order rs) ≡ reads_at n rs
    → those_at n (put_by placed_before r (placed_in_order rs)) ≡ in_order (map (λ p. p.entry)
    (cond b (r ∷ filter (λ p. p.position == n) rs) (filter (λ p. p.position == n) rs)))
sorted_at_if n r rs true e k = put_at n r e (placed_in_order rs) (up_sorted placed_before placed_order rs) ∙ ap (put_in_order r.entry) k
sorted_at_if n r rs false e k = put_elsewhere n r e (placed_in_order rs) ∙ k

pub sorted_at : (n : ℕ) (rs : List Placed) → those_at n (placed_in_order rs) ≡ reads_at n rs
sorted_at n [] = refl
sorted_at n (r ∷ rs) = sorted_at_if n r rs (r.position == n) refl (sorted_at n rs)

-- ---- what is left of the reads from a position on

abbrev pub AreFrom : ℕ → List Placed → Type 0
AreFrom n [] = Unit {0}
AreFrom n (r ∷ rs) = (n ≤ r.position) × AreFrom n rs

position_up : (a b : ℕ) (c : Bool) → by_number a b c ≡ true → a ≤ b
position_up a b c e = elim (by_told a b c e) [
  | inl l ↦ omega arith
  | inr h ↦ let same = h.0 in omega arith
]

from_on : (n : ℕ) (r : Placed) (rs : List Placed) → n ≤ r.position → Below placed_before r rs → AreFrom n rs
from_on n r [] h k = tt
from_on n r (q ∷ qs) h k = let l : r.position ≤ q.position = position_up r.position q.position (stands_before r.entry q.entry) k.0 in
    (omega arith, from_on n r qs h k.1)

none_at : (n : ℕ) (rs : List Placed) → AreFrom (suc n) rs → those_at n rs ≡ []
none_at n [] h = refl
none_at n (r ∷ rs) h = skip n r (not_same_of r.position n (λ e. omega (arith, e, h.0))) rs ∙ none_at n rs h.1

pub record IsLeft (n : ℕ) (ys rest : List Placed) : Type 0 where
  pub up : Up placed_before rest
  pub from : AreFrom n rest
  pub same : (m : ℕ) → n ≤ m → those_at m rest ≡ those_at m ys

pub record IsFront (n : ℕ) (ys rest : List Placed) (entries : List Entry) : Type 0 where
  pub front : entries ≡ those_at n ys
  pub left : IsLeft (suc n) ys rest

front_step : (n : ℕ) (r : Placed) (rs : List Placed) (b : Bool) → (r.position == n) ≡ b → Up placed_before (r ∷ rs) → n ≤ r.position
    → IsFront n rs (behind_front n rs) (front_at n rs)
    → IsFront n (r ∷ rs) (cond b (behind_front n rs) (r ∷ rs)) (cond b (r.entry ∷ front_at n rs) [])
front_step n r rs true e up h k = record {
  front = ap (λ l. r.entry ∷ l) k.front ∙ sym (ap (λ c. map (λ p. p.entry) (cond c (r ∷ filter (λ p. p.position == n) rs) (filter (λ p. p.position == n) rs)))
      e);
  left = record {
    up = k.left.up;
    from = k.left.from;
    same = λ m l. k.left.same m l ∙ sym (skip m r (not_same_of r.position m (λ f. let g = same_of r.position n e in omega (arith, f, g, l))) rs);
  };
}
front_step n r rs false e up h k =
    let apart : r.position ≡ n → ⊥ = λ f. none_true (sym e ∙ ap (λ p. p == n) f ∙ eq-eqb n n refl) in
    let past : suc n ≤ r.position = (let e1 = apart in elim (cases_order n r.position)
    [ inl f ↦ absurd (apart (sym f)) | inr o ↦ elim o [ inl l ↦ omega arith | inr l ↦ omega arith ] ]) in
    record {
      front = sym (none_at n (r ∷ rs) (past, from_on (suc n) r rs past up.0));
      left = record { up = up; from = (past, from_on (suc n) r rs past up.0); same = λ m l. refl };
    }

pub front_of : (n : ℕ) (ys : List Placed) → Up placed_before ys → AreFrom n ys → IsFront n ys (behind_front n ys) (front_at n ys)
front_of n [] up from = record { front = refl; left = record { up = tt; from = tt; same = λ m l. refl } }
front_of n (r ∷ rs) up from = front_step n r rs (r.position == n) refl up from.0 (front_of n rs up.1 from.1)
