use Rattle.flit_crew.proofs.Aiming.{aim_stays}
use Rattle.flit_crew.proofs.laws.aims_stay.Goals as goal

pub returns : goal.returns
returns c = aim_stays
