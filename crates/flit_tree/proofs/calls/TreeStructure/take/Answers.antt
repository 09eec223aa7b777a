use Rattle.std.proofs.Common.{sym, ◌∙◌}
use Rattle.flit_tree_meaning.proofs.Meanings.{tree_means}
use Rattle.flit_tree.proofs.Telling.{still_fits}
use Rattle.flit_tree.proofs.calls.TreeStructure.take.Goals as goal

pub answered-requires-clause-fits : goal.answered-requires-clause-fits
answered-requires-clause-fits g c = still_fits g.P.Placement.place c.args.self.now c.args.op.now c.args.answer c.requires

pub returns : goal.returns
returns g c =
    let s = c.args.self.now in
    c.answered.ensures ∙ sym ((tree_means s.layout (g.P.Placement.place s.place) s.pool).takes c.args.op.now c.args.answer)
