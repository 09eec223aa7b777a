use Rattle.std.proofs.Common.{ℕ, ◌-◌, ◌<◌, ◌≤◌, List, length}
use Rattle.flit_model.specs.Lists.{IsLawfulChain}
use Rattle.flit_plain.proofs.ChainWalks.{IsReaching}
use Rattle.flit_plain.proofs.chains.reach_chain.Given as goal

abbrev pub invariant-loop-row : goal.invariant-loop-row
invariant-loop-row l = record {
  word_within : l.word < length l.words;
  low_most : l.low ≤ 4294967293;
  on_the_way : (rows : List ℕ) → IsLawfulChain l.layout l.words l.head rows → IsReaching l.layout l.words l.head l.low l.word rows l.initial.reached l.reached;
}

abbrev pub decreases-loop-row : goal.decreases-loop-row
decreases-loop-row l = 4294967293 - l.low
