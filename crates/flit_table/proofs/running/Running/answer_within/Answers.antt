use Rattle.std.proofs.Common.{◌+◌, ℕ, refl, sym, ap, ◌∙◌, subst, zero-add, arith}
use Rattle.flit_structure.specs.Meanings.{tally}
use Rattle.flit_table.specs.Calls.{Ends, Runs}
use Rattle.flit_table.specs.Moves.{entering}
use Rattle.flit_table.specs.Passes.{is_stopped, waits_in, IsHeld}
use Rattle.flit_table.proofs.PassLaws.{held_ended, held_stopped}
use Rattle.flit_table.proofs.running.Running.answer_within.Goals as goal

pub stop-requires : goal.stop-requires
stop-requires g c =
    let k = c.in_default.ensures c.args.call c.args.pass.now.held 0 c.begin-start.ensures in
    (k.op, k.is)

pub returns-in_default-clause-pass : goal.returns-in_default-clause-pass
returns-in_default-clause-pass g c =
    let M = g.S.Structure.meaning c.args.self.now.origin.structure.value in
    let k = c.in_default.ensures c.args.call c.args.pass.now.held 0 c.begin-start.ensures in
    let stopped = c.stop.ensures k.op k.is in
    subst (IsHeld M c.args.self.now) (sym stopped)
    (held_stopped M c.args.self.now c.args.pass.now.held c.go_on.new.held c.requires.works.belongs c.requires.works.free c.go_on.new.start c.args.call
    (0 + c.args.steps) _ (tally M k.op) k refl refl)

pub returns-in_default-clause-calls : goal.returns-in_default-clause-calls
returns-in_default-clause-calls g c =
    let k = c.in_default.ensures c.args.call c.args.pass.now.held 0 c.begin-start.ensures in
    ap (λ h. h.calls) (c.stop.ensures k.op k.is) ∙ k.calls

pub returns-in_default-clause-answered : goal.returns-in_default-clause-answered
returns-in_default-clause-answered g c =
    let M = g.S.Structure.meaning c.args.self.now.origin.structure.value in
    let v = c.args.pass.now.held.seat.me.0 in
    let k = c.in_default.ensures c.args.call c.args.pass.now.held 0 c.begin-start.ensures in
    let stopped = c.stop.ensures k.op k.is in (
      ap (λ h. is_stopped h.rest) stopped,
      λ less. ap (λ h. waits_in h.rest) stopped ∙ k.at.2 (omega (arith, less)),
      (
        k.op,
        subst (λ (n : ℕ). Runs M c.args.self.now.origin c.args.call v (entering M (waits_in c.stop.new.held.rest) c.stop.new.held.seat.me.0) k.op n)
            (zero-add c.args.steps)
            (subst (λ h. Runs M c.args.self.now.origin c.args.call v (entering M (waits_in h.rest) h.seat.me.0) k.op (0 + c.args.steps)) (sym stopped) k.at.1),
      ),
    )

pub returns-clause-pass : goal.returns-clause-pass
returns-clause-pass g c =
    let M = g.S.Structure.meaning c.args.self.now.origin.structure.value in
    let k = c.in-Some.ensures c.args.call c.args.pass.now.held 0 c.begin-start.ensures in
    held_ended M c.args.self.now c.args.pass.now.held c.go_on.new.held c.requires.works.belongs c.requires.works.free c.go_on.new.start c.args.call
    (0 + c.in-Some.made) c.in-Some.reply k.1

pub returns-clause-calls : goal.returns-clause-calls
returns-clause-calls g c = (c.in-Some.ensures c.args.call c.args.pass.now.held 0 c.begin-start.ensures).1.calls

pub returns-clause-answered : goal.returns-clause-answered
returns-clause-answered g c =
    let M = g.S.Structure.meaning c.args.self.now.origin.structure.value in
    let k = c.in-Some.ensures c.args.call c.args.pass.now.held 0 c.begin-start.ensures in (
      k.0,
      ap is_stopped k.1.is,
      (
        k.1.op,
        subst (λ (n : ℕ). Ends M c.args.self.now.origin c.args.call c.args.pass.now.held.seat.me.0 c.go_on.new.held.seat.me.0 k.1.op c.in-Some.reply n)
            (zero-add c.in-Some.made) k.1.at,
      ),
    )
