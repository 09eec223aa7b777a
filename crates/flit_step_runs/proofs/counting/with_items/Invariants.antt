use Rattle.std.proofs.Common.{◌≡◌, ◌≤◌, ◌+◌, ◌++◌, List, take}
use Rattle.flit_report.specs.declared.content.Line.{Line}
use Rattle.flit_step_runs.specs.Counts.{AreCountsOf}
use Rattle.flit_step_runs.specs.Tellings.{told_items}
use Rattle.flit_step_runs.proofs.counting.with_items.Given as goal

-- the items so far are counted
abbrev pub invariant-loop-line : goal.invariant-loop-line
invariant-loop-line g l = record {
  counts : (lines : List Line) → AreCountsOf l.fn.counts lines →
      AreCountsOf l.counted (lines ++ told_items l.sched.run l.worker 0 (take l.line-index l.items));
  calls : l.counted.calls ≤ l.fn.counts.calls + l.item;
  item : l.item ≡ l.line-index;
}
