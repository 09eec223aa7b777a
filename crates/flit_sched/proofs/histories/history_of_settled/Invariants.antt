use Rattle.std.proofs.Common.{◌≡◌, ◌≤◌, ◌++◌, drop, length}
use Rattle.flit_model.specs.Histories.{history_from, history_of}
use Rattle.flit_sched.proofs.ReadOrders.{IsLeft}
use Rattle.flit_sched.proofs.histories.history_of_settled.Given as goal

abbrev pub invariant-loop-position : goal.invariant-loop-position
invariant-loop-position l = record {
  within : l.next ≤ length l.sorted.items;
  left : IsLeft l.position l.sorted.items (drop l.next l.sorted.items);
  so_far : l.history.items ++ history_from l.position (drop l.position l.settled) l.reads ≡ history_of l.settled l.reads;
}
