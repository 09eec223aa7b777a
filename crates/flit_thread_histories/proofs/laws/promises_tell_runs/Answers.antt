use Rattle.flit_thread_histories.proofs.Reported.{tells_run}
use Rattle.flit_thread_histories.proofs.laws.promises_tell_runs.Goals as goal

pub returns : goal.returns
returns g c = λ s o works outcomes t none h. tells_run (g.S.Structure.meaning s) o works outcomes t none h
