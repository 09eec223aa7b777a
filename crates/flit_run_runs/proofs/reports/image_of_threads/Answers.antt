use Rattle.std.proofs.Common.{subst}
use Rattle.flit_model.specs.Recovery.{IsWhole}
use Rattle.flit_run_runs.proofs.reports.image_of_threads.Goals as goal

pub returns-clause-whole : goal.returns-clause-whole
returns-clause-whole g c = subst IsWhole c.in_ok-ran.ensures.image (c.in_ok-ran.ensures.told c.requires.can.0 c.requires.can.1 c.requires.can.2).run.whole

pub returns-clause-run : goal.returns-clause-run
returns-clause-run g c = λ t shows can. (c.in_ok-ran.ensures.told t shows can).run
