use Rattle.std.proofs.Common.{◌∙◌, sym}
use Rattle.flit_sched.proofs.OpenLaws.{values_more, value_found, value_missing}
use Rattle.flit_sched.proofs.opening.first_values.Goals as goal
use Rattle.flit_sched.proofs.opening.first_values.Goals.{in-Ok, in-Err}

pub loop-key-preserved : goal.loop-key-preserved
loop-key-preserved c =
    values_more c.args.first_keys.now c.args.first_values.now c.args.keys.now c.loop-key.key-index 0 c.loop-key.values.items c.push.new.self.items
    c.match-binary_search.push c.loop-key-test.true
    c.loop-key.invariant c.in_ok-push.ensures.items
    (elim c.match-binary_search.branch [
      | in-Ok w ↦ value_found c.args.first_keys.now c.args.first_values.now w.in-Ok.at _ w.in-Ok.ensures.position c.requires.rising c.requires.same 0
          ∙ sym w.push-is
      | in-Err w ↦ value_missing c.args.first_keys.now c.args.first_values.now w.in-Err.field-0 _ w.in-Err.ensures.position c.requires.rising ∙ sym w.push-is
    ])
