use Rattle.std.proofs.Common.{◌∙◌, ◌+◌, sym, ap, subst, refl, map, arith}
use Rattle.flit_step_runs.proofs.WorkLaws.{HasWorks, one_work_more, are_works}
use Rattle.flit_step_runs.proofs.works.works_of.Goals as goal

pub loop-before-preserved : goal.loop-before-preserved
loop-before-preserved c =
    subst (HasWorks c.args.trace.now (c.loop-before.before + 1)) (sym c.in_ok-push.ensures.items)
    (one_work_more c.args.trace.now c.loop-before.before (c.loop-before.before + 1) c.loop-before.works.items
    (record { items = c.in_ok-items_of.field-0; stop = c.stop.result }) refl c.loop-before.invariant
    (c.in_ok-items_of.ensures ∙ ap (map (λ line. line.1)) c.script.ensures) c.stop.ensures)

pub returns : goal.returns
returns c = λ t s.
    let workers = ap (λ h. h.layout.workers) c.head-workers.ensures.is in
    let low = c.loop-before-test.false in
    let high = c.loop-before.auto.before-end in
    are_works c.args.trace.now t c.loop-before.before c.loop-before.works.items (omega (arith, workers, low, high)) c.loop-before.invariant s
