use Rattle.std.proofs.Common.{take}
use Rattle.std.specs.List.{AllByRecursion}
use Rattle.flit_workers.specs.Works.{IsRightItem}
use Rattle.flit_sample_threads.proofs.working.items_are_right.Given as goal

abbrev pub invariant-loop-item : goal.invariant-loop-item
invariant-loop-item g l = AllByRecursion (IsRightItem l.layout) (take l.item-index l.items)
