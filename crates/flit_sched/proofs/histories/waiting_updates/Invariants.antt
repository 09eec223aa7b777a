use Rattle.std.proofs.Common.{◌≡◌, ◌≤◌, drop, length, nat_cmp}
use Rattle.std.specs.FinMap.{entries, from_entries}
use Rattle.flit_sched.specs.Kept.{waiting_of}
use Rattle.flit_sched.proofs.histories.waiting_updates.Given as goal

abbrev pub invariant-loop-left : goal.invariant-loop-left
invariant-loop-left g l = record {
  within : l.left ≤ length l.players;
  made : l.updates.entries ≡ entries (from_entries {R = nat_cmp} (waiting_of (drop l.left l.players)));
}

abbrev pub decreases-loop-left : goal.decreases-loop-left
decreases-loop-left g l = l.left
