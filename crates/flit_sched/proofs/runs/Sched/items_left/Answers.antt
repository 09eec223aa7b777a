use Rattle.std.proofs.Common.{◌-◌, ap, sym, ◌∙◌, arith}
use Rattle.flit_sched.specs.Turns.{left_of}
use Rattle.flit_sched.specs.Kept.{part_of}
use Rattle.flit_sched.specs.Seats.{played}
use Rattle.flit_sched.proofs.GoingLaws.{part_there}
use Rattle.flit_sched.proofs.SeenLaws as seen
use Rattle.flit_sched.proofs.runs.Sched.items_left.Goals as goal

pub overflow_sub-result : goal.overflow_sub-result
overflow_sub-result g c =
    let k = seen.kept_seen g.S.Structure.meaning g.met.S.Structure.lawful c.self.inside.structure c.self.invariant c.args.self.now c.self.view_is
    c.args.worker c.index-player.result.now c.requires.0 c.requires.1 c.index-player.ensures in
    let over = k.over in
    let n = c.len.ensures ∙ c.index-player.result.now.work.items.ok.0 in
    omega (arith, over, n)

pub returns : goal.returns
returns g c =
    let x = c.index-player.result.now in
    let at = seen.some_seen g.S.Structure.meaning g.met.S.Structure.lawful c.self.inside.structure c.self.invariant c.args.self.now c.self.view_is
    c.args.worker x c.requires.0 c.requires.1 c.index-player.ensures in
    let n = c.len.ensures ∙ x.work.items.ok.0 in
    ap (λ k. k - x.over) n
    ∙ sym (ap left_of (part_there c.args.self.now.run c.args.worker at.0 (part_of (played (g.S.Structure.meaning c.self.inside.structure) x)) at.1 at.2))
