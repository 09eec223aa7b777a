use Rattle.std.proofs.Common.{◌≤◌, refl, sym, ◌∙◌, subst}
use Rattle.flit_sched.specs.Turns.{no_turn, left_at, IsTurn}
use Rattle.flit_sched.proofs.AloneLaws.{turn_alone, turn_long, turn_idle, turn_falls}
use Rattle.flit_sched.proofs.runs.Sched.run_item.Goals as goal

pub loop-self-init : goal.loop-self-init
loop-self-init g c = record { alone = no_turn; structure = refl; long = refl; left = sym c.items_left-left.ensures }

pub returns-in-Idle-clause-out : goal.returns-in-Idle-clause-out
returns-in-Idle-clause-out g c = λ no.
    turn_idle (g.S.Structure.meaning c.loop-self.self.structure) c.args.worker c.loop-self.self.run c.turn.new.self.run c.turn.result c.turn.ensures.is
    c.in-Idle.is

pub returns-in-Idle-clause-alone : goal.returns-in-Idle-clause-alone
returns-in-Idle-clause-alone g c =
    turn_alone (g.S.Structure.meaning c.args.self.now.structure) c.args.worker c.args.self.now.run c.loop-self.self.run c.turn.new.self.run c.turn.result
    (subst (λ s. IsTurn (g.S.Structure.meaning s) c.loop-self.self.run c.args.worker c.turn.result c.turn.new.self.run) c.loop-self.invariant.structure
    c.turn.ensures.is)
    c.loop-self.invariant.alone

pub returns-then-items_left-left-clause-alone : goal.returns-then-items_left-left-clause-alone
returns-then-items_left-left-clause-alone g c =
    turn_alone (g.S.Structure.meaning c.args.self.now.structure) c.args.worker c.args.self.now.run c.loop-self.self.run c.turn.new.self.run c.turn.result
    (subst (λ s. IsTurn (g.S.Structure.meaning s) c.loop-self.self.run c.args.worker c.turn.result c.turn.new.self.run) c.loop-self.invariant.structure
    c.turn.ensures.is)
    c.loop-self.invariant.alone

pub loop-self-preserved : goal.loop-self-preserved
loop-self-preserved g c = record {
  alone =
      turn_alone (g.S.Structure.meaning c.args.self.now.structure) c.args.worker c.args.self.now.run c.loop-self.self.run c.turn.new.self.run c.turn.result
      (subst (λ s. IsTurn (g.S.Structure.meaning s) c.loop-self.self.run c.args.worker c.turn.result c.turn.new.self.run) c.loop-self.invariant.structure
      c.turn.ensures.is)
      c.loop-self.invariant.alone;
  structure = c.turn.ensures.structure ∙ c.loop-self.invariant.structure;
  long =
      turn_long (g.S.Structure.meaning c.loop-self.self.structure) c.args.worker c.loop-self.self.run c.turn.new.self.run c.turn.result c.turn.ensures.is
      ∙ c.loop-self.invariant.long;
  left =
      (turn_falls (g.S.Structure.meaning c.loop-self.self.structure) c.args.worker c.loop-self.self.run c.turn.new.self.run c.turn.result
      c.turn.ensures.goes_down
      c.in_default.not-Idle
      (subst (λ k. k ≤ left_at c.turn.new.self.run c.args.worker) (sym c.loop-self.invariant.left)
      (subst (λ k. c.items_left-left.result ≤ k) c.items_left.ensures c.if-items_left-left.false))).0
      ∙ c.loop-self.invariant.left;
}
