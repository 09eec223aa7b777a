use Rattle.std.proofs.Common.{ap, ◌∙◌, arith}
use Rattle.flit_sched.specs.Turns.{tally_in}
use Rattle.flit_sched.proofs.SeenLaws as seen
use Rattle.flit_sched.proofs.runs.Sched.tally.Goals as goal

pub tally_of-requires : goal.tally_of-requires
tally_of-requires g c =
    let k = seen.kept_seen g.S.Structure.meaning g.met.S.Structure.lawful c.self.inside.structure c.self.invariant c.args.self.now c.self.view_is
    c.args.worker c.index.result.now c.requires.0 c.requires.1 c.index.ensures in
    let n = k.named in
    let low = c.requires.0 in
    omega (arith, n, low)

pub returns : goal.returns
returns g c = λ a p b at.
    c.tally_of.ensures ∙ ap (λ y. tally_in (g.S.Structure.meaning c.self.inside.structure) y.worker.doing)
    (seen.part_seen g.S.Structure.meaning g.met.S.Structure.lawful c.self.inside.structure c.self.invariant c.args.self.now c.self.view_is
    c.args.worker c.index.result.now c.requires.0 c.requires.1 c.index.ensures a p b at)
    ∙ ap (λ r. tally_in (g.S.Structure.meaning r.structure) p.worker.doing) c.self.view_is
