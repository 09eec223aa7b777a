use Rattle.std.proofs.Common.{take}
use Rattle.std.specs.List.{AllByRecursion}
use Rattle.flit_sched.specs.Kept.{IsKeyed}
use Rattle.flit_sched.proofs.opening.all_keys.Given as goal

abbrev pub invariant-loop-work : goal.invariant-loop-work
invariant-loop-work l = AllByRecursion (λ w. AllByRecursion (IsKeyed l.keys.items) w.items.items) (take l.work-index l.works)
