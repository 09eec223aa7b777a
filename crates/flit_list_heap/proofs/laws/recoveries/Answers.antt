use Rattle.flit_list_heap.proofs.Recovering.{recovers}
use Rattle.flit_list_heap.proofs.laws.recoveries.Goals as goal

pub returns : goal.returns
returns c = recovers
