use Rattle.std.proofs.Common.{◌≡◌, ℕ, List, take, ◌++◌}
use Rattle.std.specs.List.{AllByRecursion}
use Rattle.flit_sched.specs.Kept.{IsKeyed}
use Rattle.flit_sched.proofs.opening.push_keys.Given as goal

abbrev pub invariant-loop-item : goal.invariant-loop-item
invariant-loop-item l = (more : List ℕ) × (l.keys.items ≡ l.fn.keys.items ++ more) × AllByRecursion (IsKeyed more) (take l.item-index l.items)
