use Rattle.std.specs.List.{AllByRecursion}
use Rattle.flit_sched.specs.Openings.{IsRightItem}
use Rattle.flit_tree_runs.proofs.tests.opening.work_of.Given as goal

abbrev pub invariant-loop-item : goal.invariant-loop-item
invariant-loop-item g l = AllByRecursion (IsRightItem l.layout) l.items.items
