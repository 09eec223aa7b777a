use Rattle.std.proofs.Common.{take}
use Rattle.std.specs.List.{flat_map}
use Rattle.flit_run_runs.specs.Summaries.{CountsOutcomes}
use Rattle.flit_run_runs.proofs.counting.counts_of_outcomes.Given as goal

abbrev pub invariant-loop-own : goal.invariant-loop-own
invariant-loop-own l = CountsOutcomes l.counts (flat_map (λ os. os.items) (take l.own-index l.outcomes))
