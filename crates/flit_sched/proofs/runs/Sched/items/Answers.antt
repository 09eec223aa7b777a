use Rattle.std.proofs.Common.{ap, ◌∙◌}
use Rattle.flit_sched.proofs.SeenLaws as seen
use Rattle.flit_sched.proofs.runs.Sched.items.Goals as goal

pub returns : goal.returns
returns g c = λ a p b at.
    c.as_slice.ensures.value ∙ ap (λ y. y.items)
    (seen.part_seen g.S.Structure.meaning g.met.S.Structure.lawful c.self.inside.structure c.self.invariant c.args.self.now c.self.view_is
    c.args.worker c.index.result.now c.requires.0 c.requires.1 c.index.ensures a p b at)
