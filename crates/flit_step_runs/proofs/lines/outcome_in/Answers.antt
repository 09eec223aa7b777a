use Rattle.std.proofs.Common.{◌∙◌}
use Rattle.flit_step_runs.proofs.ToldLaws.{outcome_here}
use Rattle.flit_step_runs.proofs.lines.outcome_in.Goals as goal

pub returns : goal.returns
returns g c = c.unwrap_or.ensures ∙ outcome_here c.args.sched.now.run c.args.worker c.args.item c.outcome.result c.requires.worker c.outcome.ensures.is
