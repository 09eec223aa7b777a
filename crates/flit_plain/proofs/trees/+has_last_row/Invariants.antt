use Rattle.std.proofs.Common.{◌-◌}
use Rattle.flit_plain.proofs.trees.+has_last_row.Given as goal

abbrev pub decreases-has_last_row : goal.decreases-has_last_row
decreases-has_last_row l = l.edge.high - l.edge.low
