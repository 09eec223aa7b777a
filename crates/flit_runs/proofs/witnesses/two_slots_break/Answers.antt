use Rattle.flit_runs.proofs.WrongRuns.{two-slots, two-slots-astray}
use Rattle.flit_runs.proofs.witnesses.two_slots_break.Goals as goal

pub returns-clause-counts : goal.returns-clause-counts
returns-clause-counts c = two-slots-astray

pub returns-clause-rule : goal.returns-clause-rule
returns-clause-rule c = two-slots
