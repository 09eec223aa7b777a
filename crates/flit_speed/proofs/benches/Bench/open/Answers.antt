use Rattle.std.proofs.Common.{◌∙◌, sym, ap, subst}
use Rattle.flit_speed.specs.Benches.{IsAlone}
use Rattle.flit_structure.specs.Meanings.{MayStart}
use Rattle.flit_speed.proofs.AloneLaws.{first_may, first_alone}
use Rattle.flit_speed.proofs.benches.Bench.open.Goals as goal

pub start-op-requires : goal.start-op-requires
start-op-requires g c =
    let meaning = g.S.Structure.meaning c.args.structure in
    subst (λ hand. MayStart meaning.layout hand c.args.call) (sym c.first.ensures)
    (first_may meaning (g.met.S.Structure.lawful c.args.structure) c.args.machine c.requires.opens c.args.call c.requires.served)

pub finishes-requires : goal.finishes-requires
finishes-requires g c =
    let meaning = g.S.Structure.meaning c.args.structure in
    let l = g.met.S.Structure.lawful c.args.structure in
    subst (IsAlone meaning 1 c.args.machine) (sym (c.start-op.ensures ∙ ap (λ hand. meaning.begun hand c.args.call) c.first.ensures))
    (first_alone meaning l c.args.machine c.requires.opens c.args.call (first_may meaning l c.args.machine c.requires.opens c.args.call c.requires.served))
