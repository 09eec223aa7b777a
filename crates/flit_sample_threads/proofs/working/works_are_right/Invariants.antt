use Rattle.std.proofs.Common.{take, length, ◌≤◌}
use Rattle.std.specs.List.{AllByRecursion}
use Rattle.flit_workers.specs.Works.{IsRightItem}
use Rattle.flit_sample_threads.proofs.working.works_are_right.Given as goal

abbrev pub invariant-loop-work : goal.invariant-loop-work
invariant-loop-work g l =
    AllByRecursion (λ w. AllByRecursion (IsRightItem l.layout) w.items.items) (take l.work-index l.works)
    × AllByRecursion (λ w. length w.items.items ≤ 4294967295) (take l.work-index l.works)
