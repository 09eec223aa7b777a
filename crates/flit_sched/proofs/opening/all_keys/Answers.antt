use Rattle.flit_sched.proofs.OpenLaws.{keyed_more}
use Rattle.flit_sched.proofs.opening.all_keys.Goals as goal

pub loop-work-preserved : goal.loop-work-preserved
loop-work-preserved c =
    let k = c.in_ok-push_keys.ensures in
    keyed_more c.loop-work.keys.items k.0 c.push_keys.new.keys.items c.args.works.now c.loop-work.work-index c.work-item.result c.loop-work-test.true
    c.work-item.is k.1
    (rw c.deref.ensures.value at k.2) c.loop-work.invariant
