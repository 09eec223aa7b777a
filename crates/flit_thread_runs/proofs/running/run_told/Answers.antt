use Rattle.std.proofs.Common.{map, arith, refl, ◌∙◌, ap}
use Rattle.flit_thread_runs.proofs.Ending.{mapped_twice, some_end, kept_at_end}
use Rattle.flit_thread_runs.proofs.running.run_told.Goals as goal

pub gather-requires-clause-some : goal.gather-requires-clause-some
gather-requires-clause-some g c =
    let each = c.requires.works.one_each in
    let names = c.requires.first.names in
    let held = c.requires.pass.names in
    let some = c.requires.pass.belongs.names in
    some_end g.S.Structure.meaning c.args.running c.args.pass.held.seat.me.0 c.args.works.items c.in-Ok.ends.items c.in-Ok.ensures.ended
    (omega (arith, each, names, held, some))

pub gather-requires-clause-passes : goal.gather-requires-clause-passes
gather-requires-clause-passes g c = c.ended_gather.ensures.belong c.args.running c.args.pass.held.seat.me.0 c.args.works.items c.in-Ok.ends.items
    c.in-Ok.ensures.ended

pub returns-clause-told : goal.returns-clause-told
returns-clause-told g c =
    let home = c.args.running in
    let gathered = c.in-Ok-gather.ensures in
    let closed = c.in_ok-image.ensures in
    kept_at_end g.S.Structure.meaning home c.threads_keep_promises.ensures c.args.works.items c.in-Ok.ends.items c.args.pass.held.seat.me.0 c.in-Ok-gather.pass
    c.args.ahead.now c.in_ok-image.image _ (map (λ os. os.items) c.in-Ok-gather.outcomes.items) c.requires.first.view c.requires.works.one_each
    c.in-Ok.ensures.ended gathered.gathered (closed.closes home refl) (closed.shape home refl) (closed.told home refl)
    (ap (map (λ os. os.items)) gathered.outcomes ∙ mapped_twice (λ e. e.outcomes) (λ os. os.items) c.in-Ok.ends.items)
