use Rattle.flit_list_laws.proofs.Keeping.{lists_keep}
use Rattle.flit_list_laws.proofs.laws.lists_keep.Goals as goal

pub returns : goal.returns
returns c = lists_keep
