use Rattle.flit_sched.proofs.turning.begin.Goals as goal

pub begin_call-requires-clause-may : goal.begin_call-requires-clause-may
begin_call-requires-clause-may g c = λ hand is. c.requires.may hand c.in-Call.call is c.in-Call.is
