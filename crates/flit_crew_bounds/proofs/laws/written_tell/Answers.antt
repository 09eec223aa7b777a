use Rattle.flit_crew_bounds.proofs.Written.{won_writes, cleared_wins}
use Rattle.flit_crew_bounds.proofs.laws.written_tell.Goals as goal

pub returns : goal.returns
returns c = record { won = won_writes; cleared = cleared_wins }
