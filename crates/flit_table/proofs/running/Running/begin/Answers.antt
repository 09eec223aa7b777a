use Rattle.std.proofs.Common.{◌≡◌, refl, sym, ap, ◌∙◌, subst}
use Rattle.flit_table.specs.Passes.{MayBeginIn, begun_in}
use Rattle.flit_table.proofs.PassLaws.{may_begin_in, begins_calling}
use Rattle.flit_table.proofs.running.Running.begin.Goals as goal

pub begin_in-requires : goal.begin_in-requires
begin_in-requires g c =
    let s = c.args.self.now.origin.structure.value in
    let mean = g.S.Structure.meaning in
    let at : c.self.inside.structure ≡ s = sym c.self.invariant.structure ∙ ap (λ h. h.origin.structure.value) c.self.view_is in
    subst (λ z. MayBeginIn (mean z) c.args.held.now.rest c.args.call) (sym at)
    (may_begin_in (mean s) c.args.self.now c.args.held.now c.args.call c.requires.pass c.requires.free c.requires.served c.requires.count)

pub returns : goal.returns
returns g c =
    let s = c.args.self.now.origin.structure.value in
    let mean = g.S.Structure.meaning in
    let at : c.self.inside.structure ≡ s = sym c.self.invariant.structure ∙ ap (λ h. h.origin.structure.value) c.self.view_is in
    begins_calling (mean s) (g.met.S.Structure.lawful s) c.args.self.now c.args.held.now c.args.call c.requires.pass c.requires.free c.requires.served
    c.requires.count
    _ _ refl (c.begin_in.ensures ∙ ap (λ z. begun_in (mean z) c.args.held.now.rest c.args.call) at)
