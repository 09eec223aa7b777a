use Rattle.std.proofs.Common.{◌≡◌, map, take}
use Rattle.flit_sched.specs.Turns.{tally_in}
use Rattle.flit_step_runs.proofs.telling.tallies_of.Given as goal

abbrev pub invariant-loop-before : goal.invariant-loop-before
invariant-loop-before g l =
    l.tallies.items ≡ map (λ p. tally_in (g.S.Structure.meaning l.sched.structure) p.worker.doing) (take l.before l.sched.run.parts)
