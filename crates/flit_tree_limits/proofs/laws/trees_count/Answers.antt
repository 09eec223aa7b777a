use Rattle.flit_tree_limits.proofs.TreeCounts.{trees_count}
use Rattle.flit_tree_limits.proofs.laws.trees_count.Goals as goal

pub returns : goal.returns
returns c = trees_count
