use Rattle.flit_list_limits.proofs.ListCounts.{lists_count}
use Rattle.flit_list_limits.proofs.laws.lists_count.Goals as goal

pub returns : goal.returns
returns c = lists_count
