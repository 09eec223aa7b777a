use Rattle.std.proofs.Common.{ap, ◌∙◌, ◌++◌, ◌∷◌, []}
use Rattle.flit_sched.proofs.OpenLaws.{pushed_call, passed_item}
use Rattle.flit_sched.proofs.opening.push_keys.Goals as goal
use Rattle.flit_sched.proofs.opening.push_keys.Goals.{in-Call+in_ok-push, in_default}

pub loop-item-preserved : goal.loop-item-preserved
loop-item-preserved c = elim c.match-item.branch [
  | in-Call+in_ok-push w ↦
      pushed_call c.args.keys.now.items c.loop-item.invariant.0 c.match-item.keys.items w.key_of.result c.args.items.now c.loop-item.item-index _ w.in-Call.call
      c.loop-item-test.true w.in-Call.is w.key_of.ensures
      (ap (λ v. v.items) w.keys-is ∙ w.in_ok-push.ensures.items ∙ ap (λ xs. xs ++ w.key_of.result ∷ []) c.loop-item.invariant.1) c.loop-item.invariant.2
  | in_default w ↦
      passed_item c.args.keys.now.items c.loop-item.invariant.0 c.match-item.keys.items c.args.items.now c.loop-item.item-index _ c.loop-item-test.true
      w.in_default.not-Call
      (ap (λ v. v.items) w.keys-is ∙ c.loop-item.invariant.1) c.loop-item.invariant.2
]
