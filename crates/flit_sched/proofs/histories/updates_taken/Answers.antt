use Rattle.flit_sched.proofs.TakenMaps.{values_none, values_all}
use Rattle.flit_sched.proofs.histories.updates_taken.Goals as goal

pub returns-in-None : goal.returns-in-None
returns-in-None g c = λ settled. rw c.in-None.is (values_none _ _ c.new.ensures.empty)

pub returns-in-All : goal.returns-in-All
returns-in-All g c = λ settled. rw c.in-All.is (values_all _ _ c.in_ok-updates.ensures)
