use Rattle.std.proofs.Common.{◌≡◌, ◌+◌, drop}
use Rattle.flit_sched.specs.Openings.{item_count}
use Rattle.flit_sched.proofs.opening.count_items.Given as goal

abbrev pub invariant-loop-work : goal.invariant-loop-work
invariant-loop-work l = l.count + item_count (drop l.work-index l.works) ≡ item_count l.works
