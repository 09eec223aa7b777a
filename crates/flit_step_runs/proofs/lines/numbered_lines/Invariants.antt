use Rattle.std.proofs.Common.{◌≡◌}
use Rattle.std.specs.List.{flat_map, range_with_len}
use Rattle.flit_trace.specs.SeenTraces.{script_at}
use Rattle.flit_step_runs.specs.Tellings.{numbered_script}
use Rattle.flit_step_runs.proofs.lines.numbered_lines.Given as goal

abbrev pub invariant-loop-before : goal.invariant-loop-before
invariant-loop-before g l = l.told.items ≡ flat_map (λ worker. numbered_script l.sched.run worker 0 (script_at l.trace worker)) (range_with_len 1 l.before)
