use Rattle.flit_tree_heap.proofs.Opening.{opens, fresh_kept}
use Rattle.flit_tree_heap.proofs.laws.openings.Goals as goal

pub returns : goal.returns
returns c = record { lawful = opens; fresh = fresh_kept }
