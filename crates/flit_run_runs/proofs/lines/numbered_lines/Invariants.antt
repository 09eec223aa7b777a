use Rattle.std.proofs.Common.{◌≡◌, map}
use Rattle.std.specs.List.{flat_map, range_with_len}
use Rattle.flit_run_runs.specs.Tellings.{calls_of_worker}
use Rattle.flit_run_runs.proofs.lines.numbered_lines.Given as goal

abbrev pub invariant-loop-before : goal.invariant-loop-before
invariant-loop-before l =
    l.told.items ≡ flat_map (calls_of_worker l.trace (map (λ os. os.items) l.outcomes)) (range_with_len 1 l.before)
