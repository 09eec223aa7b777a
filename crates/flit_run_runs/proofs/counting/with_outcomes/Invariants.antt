use Rattle.std.proofs.Common.{◌++◌, List, take}
use Rattle.flit_model.specs.declared.calls.Outcome.{Outcome}
use Rattle.flit_run_runs.specs.Summaries.{CountsOutcomes}
use Rattle.flit_run_runs.proofs.counting.with_outcomes.Given as goal

abbrev pub invariant-loop-outcome : goal.invariant-loop-outcome
invariant-loop-outcome l =
    (os : List Outcome) → CountsOutcomes l.fn.counts os → CountsOutcomes l.counted (os ++ take l.outcome-index l.outcomes)
