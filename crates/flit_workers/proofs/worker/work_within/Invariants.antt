use Rattle.std.proofs.Common.{◌≤◌}
use Rattle.flit_table.specs.Passes.{BelongsTo, IsFree}
use Rattle.flit_workers.specs.Works.{HasMade}
use Rattle.flit_workers.proofs.worker.work_within.Given as goal

abbrev pub invariant-loop-item : goal.invariant-loop-item
invariant-loop-item g l =
    BelongsTo g.S.Structure.meaning l.running l.pass × IsFree l.pass × (l.made ≤ l.stop)
    × HasMade l.items l.item-index l.outcomes l.replied l.made l.fn.pass l.pass
