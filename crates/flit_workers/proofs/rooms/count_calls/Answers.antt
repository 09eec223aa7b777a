use Rattle.std.proofs.Common.{arith}
use Rattle.flit_model.specs.declared.calls.Item.TheVariants.{Call as Call_item}
use Rattle.flit_model.specs.declared.calls.Call.TheVariants.{Insert}
use Rattle.flit_workers.proofs.Sharing.{calls_next}
use Rattle.flit_workers.proofs.rooms.count_calls.Goals as goal

pub loop-item-preserved : goal.loop-item-preserved
loop-item-preserved c =
    let next = calls_next c.args.items.now c.loop-item.item-index (Call_item (Insert 0 0)) c.loop-item-test.true in
    (omega (arith, next, c.one_if_call-count.ensures.calls, c.loop-item.invariant.0), omega (arith, c.one_if_call-count.ensures.most, c.loop-item.invariant.1))
