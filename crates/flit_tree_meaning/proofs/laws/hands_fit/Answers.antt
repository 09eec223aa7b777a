use Rattle.flit_tree_meaning.proofs.Fitting.{hands_fit}
use Rattle.flit_tree_meaning.proofs.laws.hands_fit.Goals as goal

pub returns : goal.returns
returns c = hands_fit
