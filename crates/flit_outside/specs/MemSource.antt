-- A source in memory, which counts its reads and fails at those that it is told.
use Rattle.std.specs.Prelude.{ℕ, min, List, length, drop}
use Rattle.flit_outside.specs.Outside.{one_more}

-- what is left, how many bytes a read gives at most, the numbers of the reads that fail, and how many reads there were and how many failed
pub record MemoryInput : Type 0 where
  pub left : List ℕ
  pub piece : ℕ
  pub fails : List ℕ
  pub calls : ℕ
  pub faults : ℕ

-- how many bytes a read gives where there is so much room
abbrev pub given_count : MemoryInput → ℕ → ℕ
given_count input room = min (min input.piece room) (length input.left)

-- the input after a read that gave n bytes
abbrev pub after_read : MemoryInput → ℕ → MemoryInput
after_read input n = record input { left = drop n input.left; calls = one_more input.calls }

-- the input after a read that failed
abbrev pub after_failed_read : MemoryInput → MemoryInput
after_failed_read input = record input { calls = one_more input.calls; faults = one_more input.faults }
