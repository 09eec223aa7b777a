use Rattle.flit_sample_runs.proofs.OpenedRuns.{small_recovery}
use Rattle.flit_sample_runs.proofs.tests.rig.Driven.crash.Goals as goal

pub returns : goal.returns
returns g c l small valued =
    small_recovery c.in_ok-image.image l c.in_ok-found.found.image.words.items c.in_ok-found.found.keys.items c.in_ok-found.found.values.items
    c.in_ok-found.found.free.items c.is_small.ensures.kind c.is_small.ensures.buckets c.is_small.ensures.rows c.is_small.ensures.valued small valued
    c.in_ok-found.ensures
