use Rattle.std.proofs.Common.{◌≡◌, ◌+◌, ◌≤◌, ◌++◌, length}
use Rattle.std.specs.Vec.{vec_len, vec_capacity}
use Rattle.std.specs.Vec.Iter.{into_iter_items, into_iter_len}
use Rattle.flit_workers.proofs.Sharing.{Shares}
use Rattle.flit_workers.proofs.running.hand_out.Given as goal

abbrev pub invariant-loop-room : goal.invariant-loop-room
invariant-loop-room g l =
    (l.yielded ++ into_iter_items l.room-iterator ≡ into_iter_items l.initial.room-iterator)
    × (into_iter_len l.room-iterator ≡ length (into_iter_items l.room-iterator))
    × (vec_len l.ends + length (into_iter_items l.room-iterator) ≤ vec_capacity l.ends)
    × Shares g.S.Structure.meaning l.running l.fn.pass l.yielded l.ends.items l.pass l.left
