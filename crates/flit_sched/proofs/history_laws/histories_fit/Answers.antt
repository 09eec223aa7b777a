use Rattle.flit_sched.proofs.FitLaws.{history_legal, history_map}
use Rattle.flit_sched.proofs.history_laws.histories_fit.Goals as goal

pub returns-clause-legal : goal.returns-clause-legal
returns-clause-legal c = history_legal

pub returns-clause-map : goal.returns-clause-map
returns-clause-map c = history_map
