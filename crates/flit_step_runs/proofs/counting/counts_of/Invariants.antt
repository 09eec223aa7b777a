use Rattle.std.proofs.Common.{◌≤◌, ◌*◌}
use Rattle.std.specs.List.{flat_map, range_with_len}
use Rattle.flit_trace.specs.Contents.{Content}
use Rattle.flit_step_reports.specs.StepReports.{items_in}
use Rattle.flit_step_runs.specs.Counts.{AreCountsOf}
use Rattle.flit_step_runs.specs.Plays.{ShowsTurns}
use Rattle.flit_step_runs.specs.Tellings.{told_items, HoldsItems}
use Rattle.flit_step_runs.proofs.counting.counts_of.Given as goal

abbrev pub invariant-loop-before : goal.invariant-loop-before
invariant-loop-before g l = record {
  counts : (t : Content) → ShowsTurns l.trace t → HoldsItems t l.sched.run →
      AreCountsOf l.counts (flat_map (λ v. told_items l.sched.run v 0 (items_in t v)) (range_with_len 1 l.before));
  calls : l.counts.calls ≤ l.before * 1048576;
}
