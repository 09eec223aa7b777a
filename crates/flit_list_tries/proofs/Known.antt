-- Counts over lists: of two tests the one that passes one element more; and of the numbers beside a rising list.
use Rattle.std.proofs.Common.{◌≡◌, ℕ, zero, suc, ◌+◌, ◌<◌, ◌≤◌, not, Bool, true, false, cond, List, [], ◌∷◌, length, count_by, Contains, refl, ◌∙◌, ap, subst, inl, inr, arith}
use Rattle.std.specs.List.{AllByRecursion, range_with_len}
use Rattle.std.proofs.lemmas.Bool.{cases_Bool, cases_eq, false≢true}
use Rattle.std.proofs.lemmas.List.Sums.{count_by-le-length}
use Rattle.std.proofs.lemmas.List.FromFn.{length-range_with_len}
use Rattle.flit_model.specs.Lists.{IsRisingFrom, stands_in}
use Rattle.flit_model.proofs.Counting.{count_by-cons, count_by-cons_yes, count_by-cons_no, count_by-le}
use Rattle.flit_model.proofs.Membership.{contains_none, contains_cases, contains-list_any, contains_first}

-- one element passes the second test alone
module _ {X : Type 0} (a b : X → Bool) (more : (x : X) → a x ≡ true → b x ≡ true) where
  pub one_more : (xs : List X) (x : X) → Contains xs x → a x ≡ false → b x ≡ true → count_by a xs + 1 ≤ count_by b xs
  one_more [] x c n y = absurd (contains_none x c)
  one_more (z ∷ xs) x c n y = elim (contains_cases z xs x c) [
    | inl e ↦ here (count_by a (z ∷ xs)) (count_by b (z ∷ xs)) (count_by a xs) (count_by b xs)
        (count_by-cons_no a z xs (ap a e ∙ n)) (count_by-cons_yes b z xs (ap b e ∙ y)) (count_by-le a b more xs)
    | inr later ↦ elim (cases_Bool (a z)) [
      | inl t ↦ both (count_by a (z ∷ xs)) (count_by b (z ∷ xs)) (count_by a xs) (count_by b xs)
          (count_by-cons_yes a z xs t) (count_by-cons_yes b z xs (more z t)) (one_more xs x later n y)
      | inr f ↦ rest (count_by a (z ∷ xs)) (count_by b (z ∷ xs)) (count_by a xs) (count_by b xs) (cond (b z) 1 0)
          (count_by-cons_no a z xs f) (count_by-cons b z xs) (one_more xs x later n y)
    ]
  ]
    where
      here : (m n x y : ℕ) → m ≡ x → n ≡ suc y → x ≤ y → m + 1 ≤ n
      here m n x y e f h = omega (arith, e, f, h)

      both : (m n x y : ℕ) → m ≡ suc x → n ≡ suc y → x + 1 ≤ y → m + 1 ≤ n
      both m n x y e f h = omega (arith, e, f, h)

      rest : (m n x y k : ℕ) → m ≡ x → n ≡ k + y → x + 1 ≤ y → m + 1 ≤ n
      rest m n x y k e f h = omega (arith, e, f, h)

-- ---- the numbers of a row of them that a rising list doesn't have

abbrev pub beside_by : List ℕ → ℕ → Bool
beside_by free row = not (stands_in free row)

-- of a longer list there are no more
fewer : (r : ℕ) (rs : List ℕ) (row : ℕ) → beside_by (r ∷ rs) row ≡ true → beside_by rs row ≡ true
fewer r rs row h = by_rest (stands_in rs row) refl
  where
    by_rest : (t : Bool) → stands_in rs row ≡ t → not t ≡ true
    by_rest false e = refl
    by_rest true e = absurd (clash (stands_in (r ∷ rs) row)
        (contains-list_any row (r ∷ rs) (Rattle.flit_model.proofs.Membership.contains_later r rs row
        (Rattle.flit_model.proofs.Membership.list_any-contains row rs e))) h)
      where
        clash : (b : Bool) → b ≡ true → not b ≡ true → ⊥
        clash true e n = false≢true n
        clash false e n = false≢true e

first_in : (r : ℕ) (rs : List ℕ) → beside_by (r ∷ rs) r ≡ false
first_in r rs = ap not (contains-list_any r (r ∷ rs) (contains_first r rs))

pub beside_few : (first n : ℕ) (free : List ℕ) → IsRisingFrom first free → AllByRecursion (λ row. row < first + n) free →
    count_by (beside_by free) (range_with_len first n) + length free ≤ n
beside_few first zero [] rising fit = omega arith
beside_few first zero (r ∷ rs) rising fit = absurd (none r first rising.0 fit.0)
  where
    none : (r f : ℕ) → f ≤ r → r < f + 0 → ⊥
    none r f h i = omega (arith, h, i)
beside_few first (suc n) [] rising fit = few (count_by (beside_by []) (range_with_len first (suc n))) (length (range_with_len first (suc n))) (suc n)
    (count_by-le-length (beside_by []) (range_with_len first (suc n))) (length-range_with_len first (suc n))
  where
    few : (c k m : ℕ) → c ≤ k → k ≡ m → c + 0 ≤ m
    few c k m h e = omega (arith, h, e)
beside_few first (suc n) (r ∷ rs) rising fit = elim (cases_eq first r) [
  | inl e ↦ taken (count_by (beside_by (r ∷ rs)) (range_with_len first (suc n))) (count_by (beside_by (r ∷ rs)) (range_with_len (first + 1) n))
      (count_by (beside_by rs) (range_with_len (first + 1) n)) (length rs) n
      (count_by-cons_no (beside_by (r ∷ rs)) first (range_with_len (first + 1) n) (ap (beside_by (r ∷ rs)) e ∙ first_in r rs))
      (count_by-le (beside_by (r ∷ rs)) (beside_by rs) (fewer r rs) (range_with_len (first + 1) n))
      (beside_few (first + 1) n rs (subst (λ k. IsRisingFrom k rs) (next first r e) rising.1) (moved rs fit.1))
  | inr ne ↦ passed (count_by (beside_by (r ∷ rs)) (range_with_len first (suc n))) (cond (beside_by (r ∷ rs) first) 1 0)
      (count_by (beside_by (r ∷ rs)) (range_with_len (first + 1) n)) (length (r ∷ rs)) n
      (count_by-cons (beside_by (r ∷ rs)) first (range_with_len (first + 1) n)) (one (beside_by (r ∷ rs) first))
      (beside_few (first + 1) n (r ∷ rs) (above first r rising.0 ne, rising.1) (moved (r ∷ rs) fit))
]
  where
    next : (f r : ℕ) → f ≡ r → suc r ≡ f + 1
    next f r e = omega (arith, e)

    above : (f r : ℕ) → f ≤ r → (f ≡ r → ⊥) → f + 1 ≤ r
    above f r h ne = omega (arith, h, ne)

    moved : (xs : List ℕ) → AllByRecursion (λ row. row < first + suc n) xs → AllByRecursion (λ row. row < first + 1 + n) xs
    moved [] a = tt
    moved (x ∷ xs) a = (le x first n a.0, moved xs a.1)
      where
        le : (x f n : ℕ) → x < f + suc n → x < f + 1 + n
        le x f n h = omega (arith, h)

    one : (b : Bool) → cond b 1 0 ≤ 1
    one true = omega arith
    one false = omega arith

    taken : (c d e k n : ℕ) → c ≡ d → d ≤ e → e + k ≤ n → c + suc k ≤ suc n
    taken c d e k n q h i = omega (arith, q, h, i)

    passed : (c t d k n : ℕ) → c ≡ t + d → t ≤ 1 → d + k ≤ n → c + k ≤ suc n
    passed c t d k n q h i = omega (arith, q, h, i)
