use Rattle.std.proofs.Common.{ℕ, ◌-◌, ◌<◌, ◌≤◌, ◌↔◌, List, length}
use Rattle.flit_plain.specs.Walks.{IsLawfulFrom}
use Rattle.flit_plain.proofs.chains.is_lawful_chain.Given as goal

abbrev pub invariant-loop-row : goal.invariant-loop-row
invariant-loop-row l = record {
  word_within : l.word < length l.words;
  low_most : l.low ≤ 4294967293;
  same : ((rows : List ℕ) × IsLawfulFrom l.layout l.words l.head 0 l.head rows) ↔ ((rows : List ℕ) × IsLawfulFrom l.layout l.words l.head l.low l.word rows);
}

abbrev pub decreases-loop-row : goal.decreases-loop-row
decreases-loop-row l = 4294967293 - l.low
