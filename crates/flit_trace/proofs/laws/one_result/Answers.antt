use Rattle.flit_trace.proofs.OneResult.{one_content, one_fault, trace_or_fault}
use Rattle.flit_trace.proofs.Bounds.{never_events}
use Rattle.flit_trace.proofs.laws.one_result.Goals as goal

pub returns-clause-content : goal.returns-clause-content
returns-clause-content c = one_content

pub returns-clause-fault : goal.returns-clause-fault
returns-clause-fault c = one_fault

pub returns-clause-apart : goal.returns-clause-apart
returns-clause-apart c = trace_or_fault

pub returns-clause-no_events : goal.returns-clause-no_events
returns-clause-no_events c = never_events
