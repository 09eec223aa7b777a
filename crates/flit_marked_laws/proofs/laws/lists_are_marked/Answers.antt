use Rattle.flit_marked_laws.proofs.MarkedLists.{lists_are_marked}
use Rattle.flit_marked_laws.proofs.laws.lists_are_marked.Goals as goal

pub returns : goal.returns
returns c = lists_are_marked
