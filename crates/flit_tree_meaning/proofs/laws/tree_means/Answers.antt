use Rattle.flit_tree_meaning.proofs.Meanings.{tree_means}
use Rattle.flit_tree_meaning.proofs.laws.tree_means.Goals as goal

pub returns : goal.returns
returns c = tree_means
