use Rattle.std.proofs.Common.{◌≡◌, ◌+◌, ◌++◌, length}
use Rattle.std.specs.Vec.Iter.{into_iter_items, into_iter_len}
use Rattle.flit_sched.specs.Seats.{AreHiredFrom}
use Rattle.flit_sched.proofs.opening.hire.Given as goal

abbrev pub invariant-loop-work : goal.invariant-loop-work
invariant-loop-work g l = record {
  all : l.yielded ++ into_iter_items l.work-iterator ≡ into_iter_items l.initial.work-iterator;
  left : into_iter_len l.work-iterator ≡ length (into_iter_items l.work-iterator);
  hired : AreHiredFrom 1 l.yielded l.players.items;
  name : l.name ≡ 1 + length l.yielded;
}
