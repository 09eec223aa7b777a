use Rattle.std.proofs.Common.{arith}
use Rattle.flit_workers.specs.Works.{IsRightItem}
use Rattle.flit_sample_threads.proofs.Rights.{one_more, all_of_them}
use Rattle.flit_sample_threads.proofs.working.items_are_right.Goals as goal

pub loop-item-preserved : goal.loop-item-preserved
loop-item-preserved g c = one_more (IsRightItem c.args.layout.now) c.args.items.now c.loop-item.item-index _ c.loop-item-test.true c.loop-item.invariant
    c.item_is_right.ensures

pub returns-clause-right : goal.returns-clause-right
returns-clause-right g c = all_of_them (IsRightItem c.args.layout.now) c.args.items.now c.loop-item.item-index (omega arith) c.loop-item.invariant
