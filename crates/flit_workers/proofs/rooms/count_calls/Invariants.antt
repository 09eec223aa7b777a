use Rattle.std.proofs.Common.{◌≡◌, ◌+◌, ◌≤◌, drop, length}
use Rattle.flit_workers.specs.Works.{calls_in}
use Rattle.flit_workers.proofs.rooms.count_calls.Given as goal

abbrev pub invariant-loop-item : goal.invariant-loop-item
invariant-loop-item l = (l.count + length (calls_in (drop l.item-index l.items)) ≡ length (calls_in l.items)) × (l.count ≤ l.item-index)
