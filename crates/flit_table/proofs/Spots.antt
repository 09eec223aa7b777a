-- A list at one of its places, and at two.
use Rattle.std.proofs.Common.{◌≡◌, ◌⊎◌, inl, inr, ℕ, zero, suc, List, [], ◌∷◌, ◌++◌, set, refl, sym, ap}
use mathlib.Core.Option as maybe
use lib.ListN.{get_elem?}

module _ {X : Type 0} where
  pub record Spot (xs : List X) (i : ℕ) (x : X) : Type 0 where
    pub front : List X
    pub back : List X
    pub is : xs ≡ front ++ x ∷ back
    pub put : (y : X) → set xs i y ≡ front ++ y ∷ back

  pub spot : (xs : List X) (i : ℕ) (x : X) → get_elem? xs i ≡ maybe.some x → Spot xs i x
  spot [] i x e = absurd (maybe.some-ne-none x (sym e))
  spot (z ∷ xs) zero x e = record { front = []; back = xs; is = ap (λ y. y ∷ xs) (maybe.some-injective z x e); put = λ y. refl }
  spot (z ∷ xs) (suc i) x e =
      let r = spot xs i x e in
      record { front = z ∷ r.front; back = r.back; is = ap (λ ys. z ∷ ys) r.is; put = λ y. ap (λ ys. z ∷ ys) (r.put y) }

  -- of two places the one stands before the other
  pub record InOrder (xs : List X) (i j : ℕ) (x y : X) : Type 0 where
    pub front : List X
    pub middle : List X
    pub back : List X
    pub is : xs ≡ front ++ x ∷ (middle ++ y ∷ back)
    pub put : (p q : X) → set (set xs i p) j q ≡ front ++ p ∷ (middle ++ q ∷ back)

  pub record InOtherOrder (xs : List X) (i j : ℕ) (x y : X) : Type 0 where
    pub front : List X
    pub middle : List X
    pub back : List X
    pub is : xs ≡ front ++ y ∷ (middle ++ x ∷ back)
    pub put : (p q : X) → set (set xs i p) j q ≡ front ++ q ∷ (middle ++ p ∷ back)

  pub two_spots : (xs : List X) (i j : ℕ) (x y : X) → get_elem? xs i ≡ maybe.some x → get_elem? xs j ≡ maybe.some y → ¬ (j ≡ i) → InOrder xs i j x y
      ⊎ InOtherOrder xs i j x y
  two_spots [] i j x y e f apart = absurd (maybe.some-ne-none x (sym e))
  two_spots (z ∷ xs) zero zero x y e f apart = absurd (apart refl)
  two_spots (z ∷ xs) zero (suc j) x y e f apart =
      let r = spot xs j y f in
      inl (record { front = []; middle = r.front; back = r.back; is = (λ k. maybe.some-injective z x e k ∷ r.is k); put = λ p q. ap (λ ys. p ∷ ys) (r.put q) })
  two_spots (z ∷ xs) (suc i) zero x y e f apart =
      let r = spot xs i x e in
      inr (record { front = []; middle = r.front; back = r.back; is = (λ k. maybe.some-injective z y f k ∷ r.is k); put = λ p q. ap (λ ys. q ∷ ys) (r.put p) })
  two_spots (z ∷ xs) (suc i) (suc j) x y e f apart = by_case (two_spots xs i j x y e f (λ q. apart (ap (λ n. suc n) q)))
    where
      by_case : InOrder xs i j x y ⊎ InOtherOrder xs i j x y → InOrder (z ∷ xs) (suc i) (suc j) x y ⊎ InOtherOrder (z ∷ xs) (suc i) (suc j) x y
      by_case (inl r) = inl (record {
        front = z ∷ r.front;
        middle = r.middle;
        back = r.back;
        is = ap (λ ys. z ∷ ys) r.is;
        put =
            λ p q. ap (λ ys. z ∷ ys) (r.put p q);
      })
      by_case (inr r) = inr (record {
        front = z ∷ r.front;
        middle = r.middle;
        back = r.back;
        is = ap (λ ys. z ∷ ys) r.is;
        put =
            λ p q. ap (λ ys. z ∷ ys) (r.put p q);
      })
