use Rattle.flit_runs.proofs.WrongRuns.{right-ones-keep}
use Rattle.flit_runs.proofs.witnesses.right_ones_keep_rule.Goals as goal

pub returns : goal.returns
returns c = right-ones-keep
