use Rattle.flit_runs.proofs.WrongRuns.{early-lower}
use Rattle.flit_runs.proofs.witnesses.early_lower_breaks.Goals as goal

pub returns : goal.returns
returns c = early-lower
