-- A list at one of its places.
use Rattle.std.proofs.Common.{◌≡◌, ℕ, suc, zero, ◌+◌, ◌<◌, List, [], ◌∷◌, ◌++◌, length, take, get_or, refl, sym, ap, ◌∙◌, arith}
use Rattle.std.proofs.Math.ListN.{set}

pub record SplitsAt {X : Type 0} (xs : List X) (i : ℕ) (x : X) : Type 0 where
  pub before : List X
  pub behind : List X
  pub is : xs ≡ before ++ x ∷ behind
  pub long : length before ≡ i
  pub put : (y : X) → set xs i y ≡ before ++ y ∷ behind
  pub front : before ≡ take i xs

pub splits_at : {X : Type 0} (xs : List X) (i : ℕ) (x : X) → i < length xs → x ≡ get_or xs i x → SplitsAt xs i x
splits_at [] i x h e = absurd (omega arith)
splits_at (y ∷ xs) zero x h e = record { before = []; behind = xs; is = ap (λ z. z ∷ xs) (sym e); long = refl; put = λ z. refl; front = refl }
splits_at {X} (y ∷ xs) (suc i) x h e =
    let r : SplitsAt xs i x = splits_at xs i x (omega arith) e in
    record {
      before = y ∷ r.before;
      behind = r.behind;
      is = ap (λ zs. y ∷ zs) r.is;
      long = ap (λ n. suc n) r.long;
      put = λ z. ap (λ zs. y ∷ zs) (r.put z);
      front = ap (λ zs. y ∷ zs) r.front;
    }

-- a list is split at one place in one way
pub record SameSplit {X : Type 0} (a b c d : List X) (x y : X) : Type 0 where
  pub before : a ≡ c
  pub here : x ≡ y
  pub behind : b ≡ d

pub same_split : {X : Type 0} (a b c d : List X) (x y : X) → a ++ x ∷ b ≡ c ++ y ∷ d → length a ≡ length c → SameSplit a b c d x y
same_split [] b [] d x y e l = record { before = refl; here = cc; behind = cc }
same_split [] b (z ∷ c) d x y e l = absurd (omega arith)
same_split (w ∷ a) b [] d x y e l = absurd (omega arith)
same_split {X} (w ∷ a) b (z ∷ c) d x y e l =
    let tails : a ++ x ∷ b ≡ c ++ y ∷ d = cc in
    let heads : w ≡ z = cc in
    let r : SameSplit a b c d x y = same_split a b c d x y tails (omega arith) in
    record { before = (let e1 = r.before in cc); here = r.here; behind = r.behind }

-- what stands between two stretches
pub set_here : {X : Type 0} (a : List X) (x y : X) (b : List X) → set (a ++ x ∷ b) (length a) y ≡ a ++ y ∷ b
set_here [] x y b = refl
set_here (z ∷ a) x y b = ap (λ zs. z ∷ zs) (set_here a x y b)

pub get_here : {X : Type 0} (a : List X) (x d : X) (b : List X) → get_or (a ++ x ∷ b) (length a) d ≡ x
get_here [] x d b = refl
get_here (z ∷ a) x d b = get_here a x d b

-- one more element of the front
pub take_suc : {X : Type 0} (xs : List X) (i : ℕ) (x : X) → i < length xs → x ≡ get_or xs i x → take (suc i) xs ≡ take i xs ++ x ∷ []
take_suc [] i x h e = absurd (omega arith)
take_suc (y ∷ xs) zero x h e = ap (λ z. z ∷ []) (sym e)
take_suc (y ∷ xs) (suc i) x h e = ap (λ zs. y ∷ zs) (take_suc xs i x (omega arith) e)

pub take_one : {X : Type 0} (xs : List X) (i : ℕ) (x : X) → i < length xs → x ≡ get_or xs i x → take (i + 1) xs ≡ take i xs ++ x ∷ []
take_one xs i x h e = let n : i + 1 ≡ suc i = omega arith in ap (λ k. take k xs) n ∙ take_suc xs i x h e

-- what stands at a place, whatever stands for none
pub any_default : {X : Type 0} (xs : List X) (k : ℕ) (d e : X) → k < length xs → get_or xs k d ≡ get_or xs k e
any_default [] k d e h = absurd (omega arith)
any_default (x ∷ xs) zero d e h = refl
any_default (x ∷ xs) (suc k) d e h = any_default xs k d e (omega arith)

pub one_there : {X : Type 0} (xs : List X) (i : ℕ) (x y : X) → i < length xs → x ≡ get_or xs i x → y ≡ get_or xs i y → x ≡ y
one_there xs i x y lt e f = e ∙ any_default xs i x y lt ∙ sym f
