use Rattle.std.proofs.Common.{◌≤◌, length, arith}
use Rattle.flit_run_runs.proofs.CountedOutcomes.{counts_more, counts_all, calls_so_far}
use Rattle.flit_run_runs.proofs.counting.with_outcomes.Goals as goal

pub with_outcome-counted-requires-clause-room : goal.with_outcome-counted-requires-clause-room
with_outcome-counted-requires-clause-room c =
    let i = c.loop-outcome.outcome-index in
    let below = c.loop-outcome-test.true in
    let within : i ≤ length c.args.outcomes.now = omega (arith, below) in
    let room = c.requires.room in
    let so_far = calls_so_far c.args.counts c.loop-outcome.counted c.requires.counts.0 c.args.outcomes.now i within c.requires.counts.1
    (c.loop-outcome.invariant c.requires.counts.0 c.requires.counts.1) in
    omega (arith, below, room, so_far)

pub loop-outcome-preserved : goal.loop-outcome-preserved
loop-outcome-preserved c = λ os h.
    counts_more c.with_outcome-counted.result os c.args.outcomes.now c.loop-outcome.outcome-index _ c.loop-outcome-test.true
    (c.with_outcome-counted.ensures _ (c.loop-outcome.invariant os h))

pub returns : goal.returns
returns c = λ os h.
    counts_all c.loop-outcome.counted os c.args.outcomes.now c.loop-outcome.outcome-index (omega arith) (c.loop-outcome.invariant os h)
