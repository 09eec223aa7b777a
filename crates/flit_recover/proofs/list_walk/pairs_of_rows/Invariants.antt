use Rattle.std.proofs.Common.{◌≡◌, take}
use Rattle.flit_model.specs.Lists.{list_pairs}
use Rattle.flit_recover.proofs.list_walk.pairs_of_rows.Given as goal

abbrev pub invariant-loop-row : goal.invariant-loop-row
invariant-loop-row l = l.pairs.items ≡ list_pairs l.layout l.words (take l.row-index l.rows)
