use Rattle.std.proofs.Common.{◌≡◌, ◌≤◌, ◌++◌, drop, length}
use Rattle.flit_model.specs.Histories.{reads_at}
use Rattle.flit_plain.proofs.placing.push_reads_at.Given as goal

abbrev pub invariant-loop-left : goal.invariant-loop-left
invariant-loop-left l = record {
  within : l.left ≤ length l.reads;
  so_far : l.history.items ≡ l.initial.history.items ++ reads_at l.position (drop l.left l.reads);
}

abbrev pub decreases-loop-left : goal.decreases-loop-left
decreases-loop-left l = l.left
