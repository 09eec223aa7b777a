use Rattle.flit_list_meaning.proofs.Meanings.{lists_mean}
use Rattle.flit_list_meaning.proofs.laws.lists_mean.Goals as goal

pub returns : goal.returns
returns c = lists_mean
