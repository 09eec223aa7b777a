-- What a read or a write does to the bytes that a source or a sink tells, and to its count of faults.
use Rattle.std.specs.Prelude.{◌≡◌, ℕ, ◌+◌, min, ◌<◌, ◌≤◌, ◌-◌, ◌^◌, ◌⊎◌, List, ◌++◌, length, take, drop, Option, Some}

-- one more, up to 2^64 - 1, where a count stays
abbrev pub one_more : ℕ → ℕ
one_more count = min (count + 1) (2 ^ 64 - 1)

-- the count rose, or stands at 2^64 - 1, where it stays
abbrev pub Rose : ℕ → ℕ → Type 0
Rose before after = (before < after) ⊎ (after ≡ 2 ^ 64 - 1)

-- the first n of the bytes stand at the front of `into`, and the others are left
pub record TakesFront (bytes : List ℕ) (n : ℕ) (into : List ℕ) (left : Option (List ℕ)) : Type 0 where
  pub within : n ≤ length bytes
  pub given : take n into ≡ take n bytes
  pub rest : left ≡ Some (drop n bytes)

-- the first n bytes of the input were put behind what stood there before, and the others are left
pub record Appends (input : List ℕ) (n : ℕ) (before after : List ℕ) (left : Option (List ℕ)) : Type 0 where
  pub within : n ≤ length input
  pub behind : after ≡ before ++ take n input
  pub rest : left ≡ Some (drop n input)

-- at most so many bytes at the front are gone, and the others are left
pub record LosesFront (most : ℕ) (bytes : List ℕ) (left : Option (List ℕ)) : Type 0 where
  pub count : ℕ
  pub within : count ≤ most
  pub rest : left ≡ Some (drop count bytes)
