use Rattle.flit_crew.proofs.Numbering.{won_rises, settled_same}
use Rattle.flit_crew.proofs.laws.rising_numbers.Goals as goal

pub returns : goal.returns
returns c = record { won = won_rises; settled = settled_same }
