use Rattle.std.proofs.Common.{arith, ap, subst, length, ◌≤◌}
use Rattle.std.specs.List.{AllByRecursion}
use Rattle.flit_model.specs.declared.calls.Work.{Work}
use Rattle.flit_workers.specs.Works.{IsRightItem}
use Rattle.flit_sample_threads.proofs.Rights.{one_more, all_of_them}
use Rattle.flit_sample_threads.proofs.working.works_are_right.Goals as goal

pub loop-work-preserved : goal.loop-work-preserved
loop-work-preserved g c =
    let x : Work = c.work-item.result in
    let P : Work → Type 0 = λ (w : Work). AllByRecursion (IsRightItem c.args.layout.now) w.items.items in
    let Q : Work → Type 0 = λ (w : Work). length w.items.items ≤ 4294967295 in
    let p : P x = subst (AllByRecursion (IsRightItem c.args.layout.now)) c.deref.ensures.value c.items_are_right.ensures.right in
    let q : Q x = omega (arith, c.items_are_right.ensures.most, ap length c.deref.ensures.value) in (
      one_more P c.args.works.now c.loop-work.work-index x c.loop-work-test.true c.loop-work.invariant.0 (subst P c.work-item.is p),
      one_more Q c.args.works.now c.loop-work.work-index x c.loop-work-test.true c.loop-work.invariant.1 (subst Q c.work-item.is q),
    )

pub returns : goal.returns
returns g c = record {
  right = all_of_them (λ (w : Work). AllByRecursion (IsRightItem c.args.layout.now) w.items.items) c.args.works.now c.loop-work.work-index (omega arith)
      c.loop-work.invariant.0;
  most = all_of_them (λ (w : Work). length w.items.items ≤ 4294967295) c.args.works.now c.loop-work.work-index (omega arith) c.loop-work.invariant.1;
}
