use Rattle.std.proofs.Common.{◌≡◌, ◌++◌, length}
use Rattle.flit_step_runs.specs.Tellings.{numbered_script}
use Rattle.flit_step_runs.proofs.lines.push_script.Given as goal

-- what was yielded is told, and the other lines are left
abbrev pub invariant-loop-line : goal.invariant-loop-line
invariant-loop-line g l = record {
  told : l.told.items ≡ l.fn.told.items ++ numbered_script l.sched.run l.worker 0 l.yielded;
  item : l.item ≡ length l.yielded;
  rest : l.fn.script ≡ l.yielded ++ l.line-iterator;
}
