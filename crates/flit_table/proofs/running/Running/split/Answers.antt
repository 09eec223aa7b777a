use Rattle.std.proofs.Common.{◌≡◌, ◌≤◌, sym, ap, ◌∙◌, subst, arith}
use Rattle.flit_table.proofs.running.Running.split.Goals as goal

pub small_sum-name-requires : goal.small_sum-name-requires
small_sum-name-requires g c =
    let M = g.S.Structure.meaning in
    let s = c.args.self.now.origin.structure.value in
    let at : c.self.inside.structure ≡ s = sym c.self.invariant.structure ∙ ap (λ h. h.origin.structure.value) c.self.view_is in
    let few : (M s).layout.workers ≤ 64 = subst (λ z. (M z).layout.workers ≤ 64) at c.self.invariant.accepted.most_worker in
    let h = c.requires.pass.belongs in
    omega (arith, few, h.name, h.names, h.most, c.requires.give.0, c.requires.give.1)
