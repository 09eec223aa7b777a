use Rattle.flit_list_heap.proofs.Choosing.{unlinks, marks, links}
use Rattle.flit_list_heap.proofs.laws.own_exchanges.Goals as goal

pub returns : goal.returns
returns c = record { unlinks = unlinks; marks = marks; links = links }
