-- Lines whose bytes are all printed ones: they are ASCII, and have no end of line in them.
use Rattle.std.proofs.Common.{◌≡◌, ℕ, zero, suc, ◌+◌, ◌%◌, ◌^◌, ◌<◌, ◌≤◌, ◌&&◌, nat_le, nat_lt, Bool, true, false, List, [], ◌∷◌, ◌++◌, length, get_or, decimal, refl, ap, ◌∙◌, arith, ne_eqb}
use Rattle.std.specs.Str.{IsAscii}
use Rattle.std.specs.List.{AllByRecursion}
use Rattle.std.proofs.lemmas.Fmt.{decimal_by_steps}
use Rattle.std.proofs.lemmas.Bool.Decides.{nat_tests}
use Rattle.flit_trace.specs.Grammar.{is_silent}

abbrev pub IsPrinted : ℕ → Type 0
IsPrinted b = (32 ≤ b) × (b < 128)

abbrev pub ArePrinted : List ℕ → Type 0
ArePrinted bytes = AllByRecursion IsPrinted bytes

-- the same as a test, for bytes that are written out
abbrev pub are_printed : List ℕ → Bool
are_printed [] = true
are_printed (b ∷ bs) = (nat_le 32 b && nat_lt b 128) && are_printed bs

left_true : (a b : Bool) → a && b ≡ true → a ≡ true
left_true true b e = refl
left_true false b e = e

right_true : (a b : Bool) → a && b ≡ true → b ≡ true
right_true true b e = e
right_true false b e = cc

printed_byte : (b : ℕ) → nat_le 32 b && nat_lt b 128 ≡ true → IsPrinted b
printed_byte b e =
    let least : nat_le 32 b ≡ true = left_true (nat_le 32 b) (nat_lt b 128) e in
    let most : nat_lt b 128 ≡ true = right_true (nat_le 32 b) (nat_lt b 128) e in
    (grind (arith, nat_tests), grind (arith, nat_tests))

pub tested : (bytes : List ℕ) → are_printed bytes ≡ true → ArePrinted bytes
tested [] e = tt
tested (b ∷ bs) e = (printed_byte b (left_true _ (are_printed bs) e), tested bs (right_true (nat_le 32 b && nat_lt b 128) _ e))

pub printed-append : (xs ys : List ℕ) → ArePrinted xs → ArePrinted ys → ArePrinted (xs ++ ys)
printed-append [] ys h k = k
printed-append (x ∷ xs) ys h k = (h.0, printed-append xs ys h.1 k)

pub printed-decimal : (n : ℕ) → n < 2 ^ 64 → ArePrinted (decimal n)
printed-decimal n small =
    decimal_by_steps (λ _ digits. ArePrinted digits) (λ m h. ((omega arith, omega arith), tt))
    (λ m digits h so_far. printed-append digits ((48 + m % 10) ∷ []) so_far ((omega arith, omega arith), tt)) n small

pub printed-ascii : (bytes : List ℕ) → ArePrinted bytes → IsAscii bytes
printed-ascii [] h i = omega arith
printed-ascii (b ∷ bs) h zero = h.0.1
printed-ascii (b ∷ bs) h (suc i) = printed-ascii bs h.1 i

pub no_end : (bytes : List ℕ) (i : ℕ) → ArePrinted bytes → i < length bytes → get_or bytes i 10 ≡ 10 → ⊥
no_end [] i h within is = omega arith
no_end (b ∷ bs) zero h within is = omega (arith, h.0.0)
no_end (b ∷ bs) (suc i) h within is = no_end bs i h.1 (omega arith) is

-- a number has a digit in front, so a line that begins with one says something
record BeginsWithDigit (digits : List ℕ) : Type 0 where
  pub first : ℕ
  pub rest : List ℕ
  pub is : digits ≡ first ∷ rest
  pub digit : 48 ≤ first

decimal_begins : (n : ℕ) → n < 2 ^ 64 → BeginsWithDigit (decimal n)
decimal_begins n small =
    decimal_by_steps (λ _ digits. BeginsWithDigit digits) (λ m h. record { first = 48 + m; rest = []; is = refl; digit = omega arith })
    (λ m digits h so_far. record {
      first = so_far.first;
      rest = so_far.rest ++ (48 + m % 10) ∷ [];
      is = ap (λ ds. ds ++ (48 + m % 10) ∷ []) so_far.is;
      digit = so_far.digit;
    }) n small

pub speaks_behind : (n : ℕ) (rest : List ℕ) → n < 2 ^ 64 → is_silent (decimal n ++ rest) ≡ false
speaks_behind n rest small =
    let begins = decimal_begins n small in
    ap (λ ds. is_silent (ds ++ rest)) begins.is ∙ ne_eqb begins.first 35 (omega (arith, begins.digit))
