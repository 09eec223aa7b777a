use Rattle.flit_marked_laws.proofs.MarkedLists.{second_stores_break}
use Rattle.flit_marked_laws.proofs.laws.second_stores_break.Goals as goal

pub returns : goal.returns
returns c = second_stores_break
