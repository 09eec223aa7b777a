use Rattle.flit_list_structure.proofs.Lawfulness.{list_lawful, list_wrappable}
use Rattle.flit_list_structure.proofs.laws.lists_are_lawful.Goals as goal

pub returns : goal.returns
returns c = record { lawful = list_lawful; wrappable = list_wrappable }
