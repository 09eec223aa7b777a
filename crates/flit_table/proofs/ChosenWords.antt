-- An image that takes the values ahead of some words, word by word.
use Rattle.std.proofs.Common.{◌≡◌, ◌≢◌, ℕ, zero, suc, ◌+◌, ◌<◌, ◌≤◌, ◌==◌, ◌||◌, eqb, Bool, true, false, List, [], ◌∷◌, ◌++◌, length, map, take, get_or, refl, sym, ◌∙◌, ap, arith}
use Rattle.std.proofs.Math.ListN.{set}
use Rattle.std.proofs.lemmas.Bool.{eqb-true, eq-eqb}
use Rattle.std.specs.List.{list_any, range_with_len}

take_suc : {X : Type 0} (xs : List X) (i : ℕ) (x : X) → i < length xs → x ≡ get_or xs i x → take (suc i) xs ≡ take i xs ++ x ∷ []
take_suc [] i x h e = absurd (omega arith)
take_suc (y ∷ xs) zero x h e = ap (λ z. z ∷ []) (sym e)
take_suc (y ∷ xs) (suc i) x h e = ap (λ zs. y ∷ zs) (take_suc xs i x (omega arith) e)

take_one : {X : Type 0} (xs : List X) (i : ℕ) (x : X) → i < length xs → x ≡ get_or xs i x → take (i + 1) xs ≡ take i xs ++ x ∷ []
take_one xs i x h e = let n : i + 1 ≡ suc i = omega arith in ap (λ k. take k xs) n ∙ take_suc xs i x h e

any_default : {X : Type 0} (xs : List X) (k : ℕ) (d e : X) → k < length xs → get_or xs k d ≡ get_or xs k e
any_default [] k d e h = absurd (omega arith)
any_default (x ∷ xs) zero d e h = refl
any_default (x ∷ xs) (suc k) d e h = any_default xs k d e (omega arith)

same_mapped : (f g : ℕ → ℕ) (first n : ℕ) → ((j : ℕ) → first ≤ j → j < first + n → g j ≡ f j) → map f (range_with_len first n) ≡ map g (range_with_len first n)
same_mapped f g first zero h = refl
same_mapped f g first (suc n) h =
    ap (λ x. x ∷ map f (range_with_len (first + 1) n)) (sym (h first (omega arith) (omega arith)))
    ∙ ap (λ xs. g first ∷ xs) (same_mapped f g (first + 1) n (λ j l k. h j (omega arith) (omega arith)))

set_mapped : (f g : ℕ → ℕ) (first n w : ℕ) → w < n → ((j : ℕ) → j ≢ first + w → g j ≡ f j) →
    set (map f (range_with_len first n)) w (g (first + w)) ≡ map g (range_with_len first n)
set_mapped f g first zero w l h = absurd (omega arith)
set_mapped f g first (suc n) zero l h =
    let e : first + 0 ≡ first = omega arith in
    ap (λ k. g k ∷ map f (range_with_len (first + 1) n)) e
    ∙ ap (λ xs. g first ∷ xs) (same_mapped f g (first + 1) n (λ j low high. h j (λ q. not_self j first low (q ∙ e))))
  where
    not_self : (j first : ℕ) → first + 1 ≤ j → j ≡ first → ⊥
    not_self j first low q = omega arith
set_mapped f g first (suc n) (suc w) l h =
    let e : first + suc w ≡ first + 1 + w = omega arith in
    ap (λ x. x ∷ set (map f (range_with_len (first + 1) n)) w (g (first + suc w))) (sym (h first (λ q. omega (arith, q))))
    ∙ ap (λ xs. g first ∷ xs) (ap (λ k. set (map f (range_with_len (first + 1) n)) w (g k)) e
    ∙ set_mapped f g (first + 1) n w (omega arith) (λ j ne. h j (λ q. ne (q ∙ e))))

any_more : (q : ℕ) (xs : List ℕ) (x : ℕ) → list_any (λ v. v == q) (xs ++ x ∷ []) ≡ list_any (λ v. v == q) xs || (x == q)
any_more q [] x = by_test (x == q)
  where
    by_test : (t : Bool) → (t || false) ≡ (false || t)
    by_test true = refl
    by_test false = refl
any_more q (y ∷ xs) x = ap (λ t. (y == q) || t) (any_more q xs x) ∙ assoc (y == q) (list_any (λ v. v == q) xs) (x == q)
  where
    assoc : (a b c : Bool) → (a || (b || c)) ≡ ((a || b) || c)
    assoc true b c = refl
    assoc false b c = refl

or_false : (a b : Bool) → b ≡ false → (a || b) ≡ a
or_false true b e = refl
or_false false b e = e

or_true : (a b : Bool) → b ≡ true → (a || b) ≡ true
or_true true b e = refl
or_true false b e = e

not_same : (x q : ℕ) → q ≢ x → (x == q) ≡ false
not_same x q h = by_test (eqb x q) refl
  where
    by_test : (t : Bool) → eqb x q ≡ t → (x == q) ≡ false
    by_test true e = absurd (h (sym (eqb-true x q e)))
    by_test false e = e

-- f says of each word what the image has, by whether it is chosen
module _ (f : Bool → ℕ → ℕ) (chosen : List ℕ) (i d : ℕ) (h : i < length chosen) where
  abbrev x : ℕ
  x = get_or chosen i d

  abbrev was : ℕ → ℕ
  was w = f (list_any (λ v. v == w) (take i chosen)) w

  abbrev is : ℕ → ℕ
  is w = f (list_any (λ v. v == w) (take (i + 1) chosen)) w

  picks_more : (q : ℕ) → list_any (λ v. v == q) (take (i + 1) chosen) ≡ list_any (λ v. v == q) (take i chosen) || (x == q)
  picks_more q = ap (λ xs. list_any (λ v. v == q) xs) (take_one chosen i x h (any_default chosen i d x h)) ∙ any_more q (take i chosen) x

  others : (q : ℕ) → q ≢ x → is q ≡ was q
  others q ne = ap (λ t. f t q) (picks_more q ∙ or_false (list_any (λ v. v == q) (take i chosen)) (x == q) (not_same x q ne))

  own : is x ≡ f true x
  own = ap (λ t. f t x) (picks_more x ∙ or_true (list_any (λ v. v == x) (take i chosen)) (x == x) (eq-eqb x x refl))

  pub takes_one : (n : ℕ) (image : List ℕ) (v : ℕ) → image ≡ map was (range_with_len 0 n) → x < n → v ≡ f true x → set image x v ≡ map is (range_with_len 0 n)
  takes_one n image v e l k =
      let z : 0 + x ≡ x = omega arith in
      ap (λ xs. set xs x v) e ∙ ap (λ y. set (map was (range_with_len 0 n)) x y) (k ∙ sym own ∙ ap is (sym z))
      ∙ set_mapped was is 0 n x l (λ j ne. others j (λ q. ne (q ∙ sym z)))

  pub takes_none : (n : ℕ) (image : List ℕ) → image ≡ map was (range_with_len 0 n) → n ≤ x → image ≡ map is (range_with_len 0 n)
  takes_none n image e l = e ∙ same_mapped was is 0 n (λ j low high. others j (λ q. not_self j (get_or chosen i d) n high l q))
    where
      not_self : (j k n : ℕ) → j < 0 + n → n ≤ k → j ≡ k → ⊥
      not_self j k n high low q = omega arith

pub mapped_long : (f : ℕ → ℕ) (first n : ℕ) → length (map f (range_with_len first n)) ≡ n
mapped_long f first zero = refl
mapped_long f first (suc n) = ap suc (mapped_long f (first + 1) n)
