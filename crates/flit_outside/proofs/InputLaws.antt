-- The bytes that were read are the whole input where there are no more of them than an input may have, since one byte
-- more than that is read.
use Rattle.std.proofs.Common.{◌≡◌, ℕ, ◌≤◌, ◌<◌, List, [], length, take, drop, min, Option, Some, None, ◌∙◌, ap, arith, length-take}
use Rattle.std.proofs.Math.ListN.{drop_of_length-le}
use Rattle.std.proofs.lemmas.List.{take_all}
use Rattle.std.specs.Option.{IfSome}
use Rattle.flit_outside.specs.Outside.{LosesFront}

short : (input bytes : List ℕ) → bytes ≡ take 268435457 input → length bytes ≤ 268435456 → length input ≤ 268435457
short input bytes e h = least (length input) (length bytes) (ap length e ∙ length-take 268435457 input) h
  where
    least : (n m : ℕ) → m ≡ min 268435457 n → m ≤ 268435456 → n ≤ 268435457
    least n m k i = omega arith

pub whole_input : (left : Option (List ℕ)) (bytes : List ℕ) → IfSome left (λ input. bytes ≡ take 268435457 input) → length bytes ≤ 268435456 →
    IfSome left (λ input. bytes ≡ input)
whole_input None bytes e h = tt
whole_input (Some input) bytes e h = e ∙ take_all 268435457 input (short input bytes e h)

pub ended_input : (left after : Option (List ℕ)) (bytes : List ℕ) → IfSome left (λ input. bytes ≡ take 268435457 input) →
    IfSome left (λ input. after ≡ Some (drop 268435457 input)) → length bytes ≤ 268435456 → IfSome left (λ _. after ≡ Some [])
ended_input None after bytes e d h = tt
ended_input (Some input) after bytes e d h = d ∙ ap Some (drop_of_length-le input (short input bytes e h))

pub long_input : (left : Option (List ℕ)) (bytes : List ℕ) → IfSome left (λ input. bytes ≡ take 268435457 input) → 268435456 < length bytes →
    IfSome left (λ input. 268435456 < length input)
long_input None bytes e h = tt
long_input (Some input) bytes e h = more (length input) (length bytes) (ap length e ∙ length-take 268435457 input) h
  where
    more : (n m : ℕ) → m ≡ min 268435457 n → 268435456 < m → 268435456 < n
    more n m k i = omega arith

-- where one byte past the limit was read, that is all that is lost
pub lost_input : (left after : Option (List ℕ)) → IfSome left (λ input. after ≡ Some (drop 268435457 input)) →
    IfSome left (λ input. LosesFront 268435457 input after)
lost_input None after e = tt
lost_input (Some input) after e = record { count = 268435457; within = omega arith; rest = e }
