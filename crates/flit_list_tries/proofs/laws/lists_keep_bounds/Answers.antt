use Rattle.flit_list_tries.proofs.Tries.{lists_keep_bounds}
use Rattle.flit_list_tries.proofs.laws.lists_keep_bounds.Goals as goal

pub returns : goal.returns
returns c = lists_keep_bounds
