use Rattle.flit_generator.proofs.MadeTraces.{trace_made}
use Rattle.flit_generator.proofs.laws.a_trace_is_made.Goals as goal

pub returns : goal.returns
returns c = trace_made
