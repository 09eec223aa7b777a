use Rattle.flit_crew_bounds.proofs.MachineFalls.{machine_falls, machine_ended}
use Rattle.flit_crew_bounds.proofs.laws.machines_fall.Goals as goal

pub returns : goal.returns
returns c = record { falls = machine_falls; ended = machine_ended }
