use Rattle.std.proofs.Common.{◌≡◌, length, ◌≤◌, arith, ap}
use Rattle.flit_sample_threads.proofs.Rights.{right_works}
use Rattle.flit_sample_threads.proofs.history_tests.run.Goals as goal

pub run_recovered-requires-clause-works : goal.run_recovered-requires-clause-works
run_recovered-requires-clause-works g c κs within =
    let same = c.in_ok-running.ensures.layout in
    let workers = ap (λ l. l.workers) same in
    right_works _ _ _ c.args.works.items _ same c.as_slice.ensures.value (omega (arith, workers)) c.works_are_right.ensures.right c.works_are_right.ensures.most
