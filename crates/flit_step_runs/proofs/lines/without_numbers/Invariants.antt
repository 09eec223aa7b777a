use Rattle.std.proofs.Common.{◌≡◌, map, take}
use Rattle.flit_step_runs.proofs.lines.without_numbers.Given as goal

abbrev pub invariant-loop-line : goal.invariant-loop-line
invariant-loop-line l = l.lines.items ≡ map (λ x. x.1) (take l.line-index l.told)
