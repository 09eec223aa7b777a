use Rattle.flit_tree_laws.proofs.Keeping.{trees_keep}
use Rattle.flit_tree_laws.proofs.laws.trees_keep.Goals as goal

pub returns : goal.returns
returns c = trees_keep
