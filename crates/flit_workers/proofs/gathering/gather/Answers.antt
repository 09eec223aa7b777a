use Rattle.flit_table.specs.Passes.{BelongsTo}
use Rattle.flit_workers.proofs.TakenIn.{rest_all}
use Rattle.flit_workers.proofs.gathering.gather.Goals as goal

pub take_in-requires-clause-ends : goal.take_in-requires-clause-ends
take_in-requires-clause-ends g c =
    rest_all (λ e. BelongsTo g.S.Structure.meaning c.args.running.now e.pass) c.args.ends.items _ c.remove-first.ensures.by_index.2 c.requires.passes
