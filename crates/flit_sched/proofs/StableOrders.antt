-- Lists in order: put into order one by one, and as a stable sort leaves them.
use Rattle.std.proofs.Common.{◌≡◌, ℕ, suc, ◌<◌, Bool, true, false, ◌&&◌, cond, List, [], ◌∷◌, filter, length, get_or, refl, sym, ap, ◌∙◌, arith}
use Rattle.flit_sched.specs.Histories.{put_by, in_order_by}

module _ {X : Type 0} (le : X → X → Bool) where
  abbrev put : X → List X → List X
  put = put_by le

  abbrev sorted : List X → List X
  sorted = in_order_by le

  abbrev pub tie : X → X → Bool
  tie x y = le y x && le x y

  abbrev pub Below : X → List X → Type 0
  Below x [] = Unit {0}
  Below x (y ∷ ys) = (le x y ≡ true) × Below x ys

  abbrev pub Up : List X → Type 0
  Up [] = Unit {0}
  Up (x ∷ xs) = Below x xs × Up xs

  pub record IsOrder : Type 0 where
    pub total : (x y : X) → le x y ≡ false → le y x ≡ true
    pub on : (x y z : X) → le x y ≡ true → le y z ≡ true → le x z ≡ true
    pub own : (x : X) → le x x ≡ true

  module _ (o : IsOrder) where
    -- ---- what is put in order rises

    below_put_if : (x a y : X) (ys zs : List X) (b : Bool) → le x a ≡ true → Below x (y ∷ ys) → Below x zs → Below x (cond b (a ∷ y ∷ ys) (y ∷ zs))
    below_put_if x a y ys zs true h k l = (h, k)
    below_put_if x a y ys zs false h k l = (k.0, l)

    below_put : (x a : X) (ys : List X) → le x a ≡ true → Below x ys → Below x (put a ys)
    below_put x a [] h k = (h, tt)
    below_put x a (y ∷ ys) h k = below_put_if x a y ys (put a ys) (le a y) h k (below_put x a ys h k.1)

    below_on : (x y : X) (ys : List X) → le x y ≡ true → Below y ys → Below x ys
    below_on x y [] h k = tt
    below_on x y (z ∷ zs) h k = (o.on x y z h k.0, below_on x y zs h k.1)

    up_put_if : (a y : X) (ys zs : List X) (b : Bool) → le a y ≡ b → Up (y ∷ ys) → Up zs → (le y a ≡ true → Below y zs) → Up (cond b (a ∷ y ∷ ys) (y ∷ zs))
    up_put_if a y ys zs true e h k l = ((e, below_on a y ys e h.0), h)
    up_put_if a y ys zs false e h k l = (l (o.total a y e), k)

    up_put : (a : X) (ys : List X) → Up ys → Up (put a ys)
    up_put a [] h = (tt, tt)
    up_put a (y ∷ ys) h = up_put_if a y ys (put a ys) (le a y) refl h (up_put a ys h.1) (λ e. below_put y a ys e h.0)

    pub up_sorted : (xs : List X) → Up (sorted xs)
    up_sorted [] = tt
    up_sorted (x ∷ xs) = up_put x (sorted xs) (up_sorted xs)

    -- ---- and what ties stays as it was

    swap_if : (a y : X) (l : List X) (b c : Bool) → (b ≡ true → c ≡ true → ⊥) →
        cond c (y ∷ cond b (a ∷ l) l) (cond b (a ∷ l) l) ≡ cond b (a ∷ cond c (y ∷ l) l) (cond c (y ∷ l) l)
    swap_if a y l true true h = absurd (h refl refl)
    swap_if a y l true false h = refl
    swap_if a y l false true h = refl
    swap_if a y l false false h = refl

    both : (b c : Bool) → b && c ≡ true → (b ≡ true) × (c ≡ true)
    both true c h = (refl, h)
    both false c h = absurd (let none : ⊥ = cc in none)

    none_true : false ≡ true → ⊥
    none_true h = cc

    ties_put_if : (x a y : X) (ys zs : List X) (b : Bool) → le a y ≡ b → filter (tie x) zs ≡ filter (tie x) (a ∷ ys) →
        filter (tie x) (cond b (a ∷ y ∷ ys) (y ∷ zs)) ≡ filter (tie x) (a ∷ y ∷ ys)
    ties_put_if x a y ys zs true e h = refl
    ties_put_if x a y ys zs false e h =
        ap (λ l. cond (tie x y) (y ∷ l) l) h
        ∙ swap_if a y (filter (tie x) ys) (tie x a) (tie x y) (λ p q. none_true (sym e ∙ o.on a x y (both (le a x) (le x a) p).0 (both (le y x) (le x y) q).1))

    ties_put : (x a : X) (ys : List X) → filter (tie x) (put a ys) ≡ filter (tie x) (a ∷ ys)
    ties_put x a [] = refl
    ties_put x a (y ∷ ys) = ties_put_if x a y ys (put a ys) (le a y) refl (ties_put x a ys)

    pub ties_sorted : (x : X) (xs : List X) → filter (tie x) (sorted xs) ≡ filter (tie x) xs
    ties_sorted x [] = refl
    ties_sorted x (a ∷ xs) = ties_put x a (sorted xs) ∙ ap (λ l. cond (tie x a) (a ∷ l) l) (ties_sorted x xs)

    -- ---- lists in order in which what ties stands alike are equal

    tie_own : (x : X) → tie x x ≡ true
    tie_own x = ap (λ b. b && le x x) (o.own x) ∙ o.own x

    kept_own : (x : X) (xs : List X) → filter (tie x) (x ∷ xs) ≡ x ∷ filter (tie x) xs
    kept_own x xs = ap (λ b. cond b (x ∷ filter (tie x) xs) (filter (tie x) xs)) (tie_own x)

    above_kept_if : (x y z : X) (zs l : List X) (b : Bool) → tie x z ≡ b → le y z ≡ true → (filter (tie x) zs ≡ x ∷ l → le y x ≡ true) →
        cond b (z ∷ filter (tie x) zs) (filter (tie x) zs) ≡ x ∷ l → le y x ≡ true
    above_kept_if x y z zs l true e h k is = o.on y z x h (both (le z x) (le x z) e).0
    above_kept_if x y z zs l false e h k is = k is

    above_kept : (x y : X) (ys l : List X) → Below y ys → filter (tie x) ys ≡ x ∷ l → le y x ≡ true
    above_kept x y [] l h e = absurd (let none : ⊥ = cc in none)
    above_kept x y (z ∷ zs) l h e = above_kept_if x y z zs l (tie x z) refl h.0 (above_kept x y zs l h.1) e

    tails_if : (x y : X) (xs ys : List X) (b : Bool) → cond b (x ∷ xs) xs ≡ cond b (y ∷ ys) ys → xs ≡ ys
    tails_if x y xs ys true e = cc
    tails_if x y xs ys false e = e

    abbrev AreAlike : List X → List X → Type 0
    AreAlike xs ys = (x : X) → filter (tie x) xs ≡ filter (tie x) ys

    tie_of : (x y : X) → le y x ≡ true → le x y ≡ true → tie x y ≡ true
    tie_of x y h k = ap (λ b. b && le x y) h ∙ k

    heads_same : (x y : X) (xs ys : List X) → Below x xs → Below y ys → AreAlike (x ∷ xs) (y ∷ ys) → x ≡ y
    heads_same x y xs ys h k same =
        let low : le y x ≡ true = above_kept x y (y ∷ ys) (filter (tie x) xs) (o.own y, k) (sym (same x) ∙ kept_own x xs) in
        let high : le x y ≡ true = above_kept y x (x ∷ xs) (filter (tie y) ys) (o.own x, h) (same y ∙ kept_own y ys) in
        let e : x ∷ filter (tie x) xs ≡ y ∷ filter (tie x) ys = sym (kept_own x xs) ∙ same x
        ∙ ap (λ b. cond b (y ∷ filter (tie x) ys) (filter (tie x) ys)) (tie_of x y low high) in
        cc

    pub one_order : (xs ys : List X) → Up xs → Up ys → ((x : X) → filter (tie x) xs ≡ filter (tie x) ys) → xs ≡ ys
    one_order [] [] h k same = refl
    one_order [] (y ∷ ys) h k same = absurd (let e : [] ≡ y ∷ filter (tie y) ys = same y ∙ kept_own y ys in let none : ⊥ = cc in none)
    one_order (x ∷ xs) [] h k same = absurd (let e : [] ≡ x ∷ filter (tie x) xs = sym (same x) ∙ kept_own x xs in let none : ⊥ = cc in none)
    one_order (x ∷ xs) (y ∷ ys) h k same =
        let e : x ≡ y = heads_same x y xs ys h.0 k.0 same in
        let rest : xs ≡ ys = one_order xs ys h.1 k.1 (λ z. tails_if x y (filter (tie z) xs) (filter (tie z) ys) (tie z x)
        (same z ∙ ap (λ w. cond (tie z w) (y ∷ filter (tie z) ys) (filter (tie z) ys)) (sym e))) in
        cc

    -- ---- neighbours in order

    pub up_of : (xs : List X) → ((k : ℕ) (d : X) → suc k < length xs → le (get_or xs k d) (get_or xs (suc k) d) ≡ true) → Up xs
    up_of [] h = tt
    up_of (x ∷ []) h = (tt, tt)
    up_of (x ∷ y ∷ ys) h =
        let rest : Up (y ∷ ys) = up_of (y ∷ ys) (λ k d b. h (suc k) d (omega arith)) in
        let first : le x y ≡ true = h 0 x (omega arith) in
        ((first, below_on x y ys first rest.0), rest)

    -- what a stable sort leaves is what is put in order one by one
    pub stable_sort : (xs ys : List X) → ((k : ℕ) (d : X) → suc k < length ys → le (get_or ys k d) (get_or ys (suc k) d) ≡ true) →
        ((x : X) → filter (tie x) ys ≡ filter (tie x) xs) → ys ≡ sorted xs
    stable_sort xs ys rises same = one_order ys (sorted xs) (up_of ys rises) (up_sorted xs) (λ x. same x ∙ sym (ties_sorted x xs))
