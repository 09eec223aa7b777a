-- A text is cut at a byte in one way, and decimals are made of digits alone.
use Rattle.std.proofs.Common.{◌≡◌, ◌≢◌, ℕ, suc, ◌<◌, ◌^◌, List, [], ◌∷◌, ◌++◌, get_or, sym, ◌∙◌, Contains, refl, arith, decimal, subst}
use Rattle.std.specs.Int.{IsInRange, IsOutOfRange}
use Rattle.std.proofs.lemmas.Grind.{get_or_default_zero}
use Rattle.std.proofs.lemmas.List.Elements.{Contains-append_right}
use Rattle.flit_words.proofs.Numerals.{digit_in_number, IsNumber-decimal}

pub head_apart : (x y : ℕ) (xs : List ℕ) → ¬ Contains (x ∷ xs) y → x ≢ y
head_apart x y xs apart e = apart (0, omega arith, e)

pub tail_apart : (x y : ℕ) (xs : List ℕ) → ¬ Contains (x ∷ xs) y → ¬ Contains xs y
tail_apart x y xs apart h = apart (suc h.0, omega (arith, h.1), h.2)

-- where neither front has the byte, the fronts are the same and the rests are
pub cut_once : (c : ℕ) (a x b y : List ℕ) → ¬ Contains a c → ¬ Contains x c → a ++ c ∷ b ≡ x ++ c ∷ y → (a ≡ x) × (b ≡ y)
cut_once c [] [] b y apart other same = (refl, cc)
cut_once c [] (v ∷ vs) b y apart other same = let ne = head_apart v c vs other in let e : v ≡ c = cc in absurd (ne e)
cut_once c (u ∷ us) [] b y apart other same = let ne = head_apart u c us apart in let e : u ≡ c = cc in absurd (ne e)
cut_once c (u ∷ us) (v ∷ vs) b y apart other same =
    let heads : u ≡ v = cc in
    let tails : us ++ c ∷ b ≡ vs ++ c ∷ y = cc in
    let rest = cut_once c us vs b y (tail_apart u c us apart) (tail_apart v c vs other) tails in
    let fronts : us ≡ vs = rest.0 in
    (cc, rest.1)

-- the byte stands between the two
pub Contains_between : (front back : List ℕ) (c : ℕ) → Contains (front ++ c ∷ back) c
Contains_between front back c = Contains-append_right front (c ∷ back) c (0, omega arith, refl)

-- what is no digit stands in no decimal
pub decimal_apart : (n c : ℕ) → n < 10 ^ 10 → IsOutOfRange 48 57 c → ¬ Contains (decimal n) c
decimal_apart n c small out h =
    let digit : IsInRange 48 57 (get_or (decimal n) h.0 0) = digit_in_number (decimal n) h.0 (IsNumber-decimal n small) h.1 in
    let is : get_or (decimal n) h.0 0 ≡ c = sym (get_or_default_zero (decimal n) h.0 c h.1) ∙ h.2 in
    grind arith

pub contains_cut : (text front back : List ℕ) (c : ℕ) → text ≡ front ++ c ∷ back → Contains text c
contains_cut text front back c is =
    let P : List ℕ → Type 0 = λ s. Contains s c in
    subst P (sym is) (Contains_between front back c)
