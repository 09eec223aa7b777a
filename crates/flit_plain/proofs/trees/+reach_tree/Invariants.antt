use Rattle.std.proofs.Common.{◌-◌}
use Rattle.flit_plain.proofs.trees.+reach_tree.Given as goal

abbrev pub decreases-reach_tree : goal.decreases-reach_tree
decreases-reach_tree l = l.edge.high - l.edge.low
