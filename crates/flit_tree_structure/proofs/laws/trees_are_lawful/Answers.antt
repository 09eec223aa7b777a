use Rattle.flit_tree_structure.proofs.Lawfulness.{tree_lawful, tree_wrappable}
use Rattle.flit_tree_structure.proofs.laws.trees_are_lawful.Goals as goal

pub returns : goal.returns
returns c = record { lawful = tree_lawful; wrappable = tree_wrappable }
