use Rattle.std.proofs.Common.{◌+◌, ◌-◌, ◌<◌, ◌≤◌, Some, sym, arith, subst}
use Rattle.flit_workers.specs.Works.{HasMade}
use Rattle.flit_workers.proofs.Growing.{made_with_reply, made_without_reply, made_none, made_few, worked_here, worked_stopped, held_name, ends_at_stop, ends_behind}
use Rattle.flit_workers.proofs.worker.work_within.Goals as goal
use Rattle.flit_workers.proofs.worker.work_within.Goals.{in-Some, in_default-reply}

pub loop-item-init : goal.loop-item-init
loop-item-init g c = (
  c.requires.pass.belongs,
  c.requires.pass.free,
  omega arith,
  subst (λ os. HasMade c.args.items.now 0 os 0 0 c.args.pass.now c.args.pass.now) (sym c.requires.stopped) (made_none c.args.items.now c.args.pass.now),
)

pub item_within-requires-clause-count : goal.item_within-requires-clause-count
item_within-requires-clause-count g c =
    let m = c.loop-item.invariant.3 in
    let few = made_few c.args.items.now c.loop-item.item-index c.loop-item.outcomes c.loop-item.replied c.loop-item.made c.args.pass.now c.loop-item.pass
    (omega arith) m in
    omega (arith, m.calls, few, c.requires.count)

pub returns-in_default-clause-worked : goal.returns-in_default-clause-worked
returns-in_default-clause-worked g c =
    let i = c.loop-item.invariant in
    let cut = c.in_default.ensures.made in
    let name = held_name g.S.Structure.meaning c.args.running.now c.args.pass.now c.loop-item.pass c.requires.pass.belongs i.0 i.3.grows.same in
    let some : 0 < c.args.stop - c.loop-item.made = omega (arith, i.2, c.if-made-stop.false) in
    worked_stopped (g.S.Structure.meaning c.args.running.now.origin.structure.value) c.args.running.now.origin
    c.args.items.now c.loop-item.item-index _ c.loop-item.outcomes c.loop-item.replied c.loop-item.made _ (Some c.args.stop) c.args.pass.now
    c.loop-item.pass c.item_within.new.pass c.loop-item-test.true some name i.3 cut
    (ends_at_stop c.args.stop _ _ (omega (arith, i.2)))

pub returns-clause-worked : goal.returns-clause-worked
returns-clause-worked g c =
    let i = c.loop-item.invariant in
    worked_here (g.S.Structure.meaning c.args.running.now.origin.structure.value) c.args.running.now.origin
    c.args.items.now c.loop-item.item-index c.loop-item.outcomes c.loop-item.replied c.loop-item.made (Some c.args.stop) c.args.pass.now
    c.loop-item.pass i.1 i.3
    (ends_behind c.args.stop c.loop-item.made c.loop-item.item-index c.args.items.now i.2 (omega arith))

pub returns-then-made-stop-clause-worked : goal.returns-then-made-stop-clause-worked
returns-then-made-stop-clause-worked g c =
    let i = c.loop-item.invariant in
    worked_here (g.S.Structure.meaning c.args.running.now.origin.structure.value) c.args.running.now.origin
    c.args.items.now c.loop-item.item-index c.loop-item.outcomes c.loop-item.replied c.loop-item.made (Some c.args.stop) c.args.pass.now
    c.loop-item.pass i.1 i.3
    (ends_at_stop c.args.stop c.loop-item.made _ c.if-made-stop.true)

pub loop-item-preserved : goal.loop-item-preserved
loop-item-preserved g c =
    let i = c.loop-item.invariant in
    let name = held_name g.S.Structure.meaning c.args.running.now c.args.pass.now c.loop-item.pass c.requires.pass.belongs i.0 i.3.grows.same in
    let h = c.in-Made.ensures.made in
    let past = c.item_within.ensures.pass in
    let most : c.loop-item.made + c.in-Made.events ≤ c.args.stop = omega (arith, h.0, i.2) in
    elim c.match-reply.branch [
      | in-Some w ↦ (
        past,
        h.1.free,
        most,
        made_with_reply c.args.items.now c.loop-item.item-index _ c.loop-item.outcomes c.match-reply.outcomes c.loop-item.replied c.match-reply.replied
            c.loop-item.made c.in-Made.events c.in-Made.reply w.in-Some.reply c.args.pass.now c.loop-item.pass c.item_within.new.pass
            c.loop-item-test.true name i.3 h.1 w.in-Some.is w.outcomes-is w.replied-is,
      )
      | in_default-reply w ↦ (
        past,
        h.1.free,
        most,
        made_without_reply c.args.items.now c.loop-item.item-index _ c.loop-item.outcomes c.match-reply.outcomes c.loop-item.replied c.match-reply.replied
            c.loop-item.made c.in-Made.events c.in-Made.reply c.args.pass.now c.loop-item.pass c.item_within.new.pass
            c.loop-item-test.true name i.3 h.1 w.in_default-reply.is w.outcomes-is w.replied-is,
      )
    ]
