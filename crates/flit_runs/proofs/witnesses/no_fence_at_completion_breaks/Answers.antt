use Rattle.flit_runs.proofs.WrongRuns.{no-fence-at-completion}
use Rattle.flit_runs.proofs.witnesses.no_fence_at_completion_breaks.Goals as goal

pub returns : goal.returns
returns c = no-fence-at-completion
