-- Loads that were counted have queued their word or not, also where one more is counted with its kind.
use Rattle.std.proofs.Common.{◌≡◌, ℕ, ◌+◌, ◌-◌, ◌^◌, ◌<◌, arith}
use Rattle.flit_pv.specs.Hands.{more}

-- a sum below its top is that of its two parts
abbrev pub IsSplit : ℕ → ℕ → ℕ → Type 0
IsSplit all one other = all < 2 ^ 64 - 1 → all ≡ one + other

-- raised with the one part
pub splits_left : (all one other : ℕ) → IsSplit all one other → IsSplit (more all) (more one) other
splits_left all one other h below =
    let was : all < 2 ^ 64 - 1 = omega (arith, below) in
    let e : all ≡ one + other = h was in
    omega (arith, below, e)

-- raised with the other part
pub splits_right : (all one other : ℕ) → IsSplit all one other → IsSplit (more all) one (more other)
splits_right all one other h below =
    let was : all < 2 ^ 64 - 1 = omega (arith, below) in
    let e : all ≡ one + other = h was in
    omega (arith, below, e)
