use Rattle.flit_runs.proofs.WrongRuns.{no-fence-before-exchange}
use Rattle.flit_runs.proofs.witnesses.no_fence_before_exchange_breaks.Goals as goal

pub returns : goal.returns
returns c = no-fence-before-exchange
