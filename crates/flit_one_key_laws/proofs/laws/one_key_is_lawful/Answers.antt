use Rattle.flit_one_key_laws.proofs.Lawfulness.{one_key_lawful, one_key_wrappable}
use Rattle.flit_one_key_laws.proofs.laws.one_key_is_lawful.Goals as goal

pub returns : goal.returns
returns c = record { lawful = one_key_lawful; wrappable = one_key_wrappable }
