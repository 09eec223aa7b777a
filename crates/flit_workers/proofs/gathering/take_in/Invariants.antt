use Rattle.std.proofs.Common.{◌≡◌, ◌+◌, ◌≤◌, ◌++◌, length, map}
use Rattle.std.specs.Vec.{vec_len, vec_capacity}
use Rattle.std.specs.Vec.Iter.{into_iter_items, into_iter_len}
use Rattle.flit_table.specs.Passes.{BelongsTo}
use Rattle.flit_workers.specs.Gathered.{HasTakenAll}
use Rattle.flit_workers.proofs.gathering.take_in.Given as goal

abbrev pub invariant-loop-end : goal.invariant-loop-end
invariant-loop-end g l =
    (l.yielded ++ into_iter_items l.end-iterator ≡ into_iter_items l.initial.end-iterator)
    × (into_iter_len l.end-iterator ≡ length (into_iter_items l.end-iterator))
    × (vec_len l.works + length (into_iter_items l.end-iterator) ≤ vec_capacity l.works)
    × (vec_len l.outcomes + length (into_iter_items l.end-iterator) ≤ vec_capacity l.outcomes)
    × BelongsTo g.S.Structure.meaning l.running l.pass
    × HasTakenAll (g.S.Structure.meaning l.running.origin.structure.value) (map (λ e. e.pass) l.yielded) l.fn.pass l.pass
    × (l.works.items ≡ l.fn.works.items ++ map (λ e. e.work) l.yielded)
    × (l.outcomes.items ≡ l.fn.outcomes.items ++ map (λ e. e.outcomes) l.yielded)
