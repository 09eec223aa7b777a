use Rattle.flit_tree_limits.proofs.Limiting.{trees_keep_limits}
use Rattle.flit_tree_limits.proofs.laws.trees_keep_limits.Goals as goal

pub returns : goal.returns
returns c = trees_keep_limits
