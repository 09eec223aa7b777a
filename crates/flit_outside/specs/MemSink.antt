-- A sink in memory, which counts its writes and fails at those that it is told.
use Rattle.std.specs.Prelude.{◌≡◌, ℕ, ◌-◌, ◌<◌, ◌≤◌, ◌⊎◌, min, List, length, take, ◌++◌, Contains}
use Rattle.flit_outside.specs.Outside.{one_more}

-- what was taken, how many bytes a write takes at most, the numbers of the writes that fail, how many bytes there is room for, and how many writes there were and how many failed
pub record MemoryOutput : Type 0 where
  pub taken : List ℕ
  pub piece : ℕ
  pub fails : List ℕ
  pub room : ℕ
  pub calls : ℕ
  pub faults : ℕ

-- how many of the given bytes a write takes
abbrev pub taken_count : MemoryOutput → List ℕ → ℕ
taken_count output given = min (min (length given) output.piece) (output.room - length output.taken)

-- no byte can be taken: the piece is nothing, or there is no room left
abbrev pub IsFull : MemoryOutput → Type 0
IsFull output = (output.piece ≡ 0) ⊎ (output.room ≤ length output.taken)

-- a write of the given bytes fails: it is one of those that fail, or not one of the bytes can be taken
abbrev pub Refuses : MemoryOutput → List ℕ → Type 0
Refuses output given = Contains output.fails (one_more output.calls) ⊎ ((0 < length given) × IsFull output)

-- the output after a write that took the first n of the given bytes
abbrev pub after_write : MemoryOutput → List ℕ → ℕ → MemoryOutput
after_write output given n = record output { taken = output.taken ++ take n given; calls = one_more output.calls }

-- the output after a write that failed
abbrev pub after_failed_write : MemoryOutput → MemoryOutput
after_failed_write output = record output { calls = one_more output.calls; faults = one_more output.faults }
