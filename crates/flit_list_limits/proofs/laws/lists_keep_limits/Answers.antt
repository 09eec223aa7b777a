use Rattle.flit_list_limits.proofs.Limiting.{lists_keep_limits}
use Rattle.flit_list_limits.proofs.laws.lists_keep_limits.Goals as goal

pub returns : goal.returns
returns c = lists_keep_limits
