use Rattle.std.proofs.Common.{◌+◌, None, sym, arith, subst}
use Rattle.std.proofs.lemmas.List.{drop_all}
use Rattle.flit_workers.specs.Works.{HasMade}
use Rattle.flit_workers.proofs.Growing.{made_with_reply, made_without_reply, made_none, made_few, worked_here, held_name}
use Rattle.flit_workers.proofs.worker.work_all.Goals as goal
use Rattle.flit_workers.proofs.worker.work_all.Goals.{in-Some, in_default}

pub loop-item-init : goal.loop-item-init
loop-item-init g c = (
  c.requires.pass.belongs,
  c.requires.pass.free,
  (0, subst (λ os. HasMade c.args.items.now 0 os 0 0 c.args.pass.now c.args.pass.now) (sym c.requires.stopped) (made_none c.args.items.now c.args.pass.now)),
)

pub item_made-requires-clause-count : goal.item_made-requires-clause-count
item_made-requires-clause-count g c =
    let m = c.loop-item.invariant.2.1 in
    let few = made_few c.args.items.now c.loop-item.item-index c.loop-item.outcomes c.loop-item.replied c.loop-item.invariant.2.0 c.args.pass.now
    c.loop-item.pass (omega arith) m in
    omega (arith, m.calls, few, c.requires.count)

pub returns-clause-worked : goal.returns-clause-worked
returns-clause-worked g c =
    let i = c.loop-item.invariant in
    worked_here (g.S.Structure.meaning c.args.running.now.origin.structure.value) c.args.running.now.origin
    c.args.items.now c.loop-item.item-index c.loop-item.outcomes c.loop-item.replied i.2.0 None c.args.pass.now c.loop-item.pass i.1 i.2.1
    (drop_all c.loop-item.item-index c.args.items.now (omega arith))

pub loop-item-preserved : goal.loop-item-preserved
loop-item-preserved g c =
    let i = c.loop-item.invariant in
    let name = held_name g.S.Structure.meaning c.args.running.now c.args.pass.now c.loop-item.pass c.requires.pass.belongs i.0 i.2.1.grows.same in
    let past = c.item_made.ensures.pass in
    let h = c.item_made.ensures.made in
    elim c.match-item_made.branch [
      | in-Some w ↦ (
        past,
        h.1.free,
        (
          i.2.0 + h.0,
          made_with_reply c.args.items.now c.loop-item.item-index _ c.loop-item.outcomes c.match-item_made.outcomes c.loop-item.replied
              c.match-item_made.replied i.2.0 h.0 c.item_made.result w.in-Some.reply c.args.pass.now c.loop-item.pass c.item_made.new.pass
              c.loop-item-test.true name i.2.1 h.1 w.in-Some.is w.outcomes-is w.replied-is,
        ),
      )
      | in_default w ↦ (
        past,
        h.1.free,
        (
          i.2.0 + h.0,
          made_without_reply c.args.items.now c.loop-item.item-index _ c.loop-item.outcomes c.match-item_made.outcomes c.loop-item.replied
              c.match-item_made.replied i.2.0 h.0 c.item_made.result c.args.pass.now c.loop-item.pass c.item_made.new.pass
              c.loop-item-test.true name i.2.1 h.1 w.in_default.is w.outcomes-is w.replied-is,
        ),
      )
    ]
