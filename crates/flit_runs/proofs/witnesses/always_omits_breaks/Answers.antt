use Rattle.flit_runs.proofs.WrongRuns.{always-omits}
use Rattle.flit_runs.proofs.witnesses.always_omits_breaks.Goals as goal

pub returns : goal.returns
returns c = always-omits
