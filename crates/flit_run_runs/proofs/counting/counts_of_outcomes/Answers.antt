use Rattle.std.proofs.Common.{length, ap, arith}
use Rattle.flit_run_runs.proofs.CountedOutcomes.{part_of_all}
use Rattle.flit_run_runs.proofs.counting.counts_of_outcomes.Goals as goal

pub with_outcomes-counts-requires-clause-room : goal.with_outcomes-counts-requires-clause-room
with_outcomes-counts-requires-clause-room c =
    let part = part_of_all c.args.outcomes.now c.loop-own.own-index _ c.own-item.result c.loop-own-test.true c.own-item.is in
    let own = ap length c.as_slice.ensures.value in
    let so_far = c.loop-own.invariant.calls in
    let room = c.requires in
    omega (arith, part, own, so_far, room)
