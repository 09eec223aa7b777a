use Rattle.std.proofs.Common.{◌≡◌, map, take}
use Rattle.flit_sched.specs.Openings.{first_outcome}
use Rattle.flit_sched.proofs.opening.first_outcomes.Given as goal

abbrev pub invariant-loop-item : goal.invariant-loop-item
invariant-loop-item l = l.outcomes.items ≡ map first_outcome (take l.item-index l.items)
