use Rattle.flit_trace.proofs.LawfulLines.{accepted, placed, few, right, turns}
use Rattle.flit_trace.proofs.laws.within_limits.Goals as goal

pub returns-clause-accepted : goal.returns-clause-accepted
returns-clause-accepted c = accepted

pub returns-clause-place : goal.returns-clause-place
returns-clause-place c = placed

pub returns-clause-few : goal.returns-clause-few
returns-clause-few c = few

pub returns-clause-right : goal.returns-clause-right
returns-clause-right c = right

pub returns-clause-turns : goal.returns-clause-turns
returns-clause-turns c = turns
