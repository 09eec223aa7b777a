use Rattle.flit_table.proofs.LogLaws.{log_follows, log_grows}
use Rattle.flit_table.proofs.log_laws.logs_settle.Goals as goal

pub returns-clause-follows : goal.returns-clause-follows
returns-clause-follows c = log_follows

pub returns-clause-grows : goal.returns-clause-grows
returns-clause-grows c = log_grows
