use Rattle.std.proofs.Common.{◌≤◌, length}
use Rattle.std.specs.List.{AllByRecursion}
use Rattle.flit_sched.specs.Openings.{IsRightItem}
use Rattle.flit_speed.specs.Benches.{one_row}
use Rattle.flit_speed.proofs.scheduled.work.Given as goal

abbrev pub invariant-loop : goal.invariant-loop
invariant-loop l = AllByRecursion (IsRightItem one_row) l.items.items × (length l.items.items ≤ 1048576)
