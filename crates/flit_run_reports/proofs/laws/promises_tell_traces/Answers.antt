use Rattle.flit_run_reports.proofs.ToldTraces.{tells_trace}
use Rattle.flit_run_reports.proofs.laws.promises_tell_traces.Goals as goal

pub returns : goal.returns
returns g c = λ s o t works outcomes k h. tells_trace (g.S.Structure.meaning s) o t works outcomes k h
