use Rattle.flit_one_key_crew.proofs.Keeping.{one_key_keeps}
use Rattle.flit_one_key_crew.proofs.laws.one_key_keeps.Goals as goal

pub returns : goal.returns
returns c = one_key_keeps
