use Rattle.flit_list_heap.proofs.Opening.{opens}
use Rattle.flit_list_heap.proofs.laws.openings.Goals as goal

pub returns : goal.returns
returns c l o accepted kind opening = opens l accepted kind o opening
