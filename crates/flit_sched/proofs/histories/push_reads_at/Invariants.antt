use Rattle.std.proofs.Common.{◌≡◌, ◌≤◌, ◌-◌, ◌++◌, drop, length}
use Rattle.flit_sched.specs.Histories.{front_at, behind_front}
use Rattle.flit_sched.proofs.histories.push_reads_at.Given as goal

abbrev pub invariant-loop-next : goal.invariant-loop-next
invariant-loop-next l = record {
  within : l.next ≤ length l.reads;
  entries : l.history.items ++ front_at l.position (drop l.next l.reads) ≡ l.initial.history.items ++ front_at l.position (drop l.start l.reads);
  behind : behind_front l.position (drop l.next l.reads) ≡ behind_front l.position (drop l.start l.reads);
}

abbrev pub decreases-loop-next : goal.decreases-loop-next
decreases-loop-next l = length l.reads - l.next
