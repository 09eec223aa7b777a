use Rattle.std.proofs.Common.{ℕ}
use Rattle.flit_table.specs.Passes.{BelongsTo, IsFree}
use Rattle.flit_workers.specs.Works.{HasMade}
use Rattle.flit_workers.proofs.worker.work_all.Given as goal

abbrev pub invariant-loop-item : goal.invariant-loop-item
invariant-loop-item g l =
    BelongsTo g.S.Structure.meaning l.running l.pass × IsFree l.pass
    × ((count : ℕ) × HasMade l.items l.item-index l.outcomes l.replied count l.fn.pass l.pass)
