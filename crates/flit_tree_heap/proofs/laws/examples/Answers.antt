use Rattle.flit_tree_heap.proofs.SmallHeaps.{can_be_won}
use Rattle.flit_tree_heap.proofs.laws.examples.Goals as goal

pub returns : goal.returns
returns c = can_be_won
