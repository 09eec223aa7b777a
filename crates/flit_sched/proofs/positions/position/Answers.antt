use Rattle.std.proofs.Common.{sym, ◌∙◌}
use Rattle.std.proofs.lemmas.Bool.{false≢true}
use Rattle.flit_structure.specs.Meanings.{key_of as the_key_of}
use Rattle.flit_sched.specs.Reads.{IsReplyBehind}
use Rattle.flit_sched.proofs.PositionLaws.{value_next, value_kept, not_right, none_before}
use Rattle.flit_sched.proofs.positions.position.Goals as goal
use Rattle.flit_sched.proofs.positions.position.Goals.{then-key_of-key, else-key_of-key}

pub loop-at-preserved : goal.loop-at-preserved
loop-at-preserved c = (
  c.loop-at.invariant.0,
  (λ content h. elim c.if-key_of-key.branch [
    | then-key_of-key w ↦
        w.value-is ∙ w.after_call-value.ensures
        ∙ value_next content c.args.updates.now c.loop-at.at _ (the_key_of c.args.call) c.loop-at.value c.loop-at-test.true
        (sym c.key_of.ensures ∙ w.if-key_of-key.true ∙ c.loop-at.invariant.0) (c.loop-at.invariant.1 content h)
    | else-key_of-key w ↦
        w.value-is
        ∙ value_kept content c.args.updates.now c.loop-at.at _ (the_key_of c.args.call) c.loop-at.value c.loop-at-test.true
        (λ q. w.if-key_of-key.false (c.key_of.ensures ∙ q ∙ sym c.loop-at.invariant.0)) (c.loop-at.invariant.1 content h)
  ]),
  (λ content n h. none_before (IsReplyBehind content c.args.updates.now c.args.call c.args.reply) c.args.first c.loop-at.at
      (λ k. c.loop-at.invariant.2 content k h)
      (not_right content c.args.updates.now c.loop-at.at c.args.call c.args.reply c.loop-at.value (c.loop-at.invariant.1 content h)
      (λ q. false≢true (sym c.if-is_right.false ∙ c.is_right.ensures.1 q))) n),
)
