use Rattle.std.proofs.Common.{◌≡◌, ◌++◌, map, length}
use Rattle.std.specs.List.{AllByRecursion}
use Rattle.std.specs.Vec.Iter.{into_iter_items, into_iter_len}
use Rattle.flit_workers.specs.Ends.{IsRoom}
use Rattle.flit_workers.proofs.rooms.rooms_for.Given as goal

abbrev pub invariant-loop-work : goal.invariant-loop-work
invariant-loop-work l =
    (l.yielded ++ into_iter_items l.work-iterator ≡ into_iter_items l.initial.work-iterator)
    × (into_iter_len l.work-iterator ≡ length (into_iter_items l.work-iterator))
    × (map (λ r. r.work) l.rooms.items ≡ l.yielded)
    × AllByRecursion IsRoom l.rooms.items
