use Rattle.std.proofs.Common.{◌≡◌, ◌++◌}
use Rattle.flit_run_runs.specs.Tellings.{numbered_calls}
use Rattle.flit_run_runs.proofs.lines.push_calls.Given as goal

-- what is told, and what the lines and outcomes that are left are to tell, is all
abbrev pub invariant-loop-number : goal.invariant-loop-number
invariant-loop-number l =
    l.told.items ++ numbered_calls l.worker l.left l.number-iterator ≡ l.fn.told.items ++ numbered_calls l.fn.worker l.fn.outcomes l.fn.script
