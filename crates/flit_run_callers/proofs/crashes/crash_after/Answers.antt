use Rattle.std.proofs.Common.{subst, ◌∙◌}
use Rattle.flit_model.specs.Recovery.{IsImageOf}
use Rattle.flit_sched.specs.Views.{picks_of}
use Rattle.flit_run_callers.specs.Crashes.{AreTurnsOf}
use Rattle.flit_run_callers.proofs.CrashLaws.{workers_within, whole_mapped, leaves}
use Rattle.flit_run_callers.proofs.crashes.crash_after.Goals as goal

pub give_each-requires : goal.give_each-requires
give_each-requires g c =
    workers_within (g.S.Structure.meaning c.args.structure) c.args.start.now c.args.work.items c.args.workers.now c.in_ok-sched.sched.run
    c.in_ok-sched.ensures.run c.requires.workers

pub recover_lawful_owned-requires-clause-whole : goal.recover_lawful_owned-requires-clause-whole
recover_lawful_owned-requires-clause-whole g c =
    let turns = subst (λ s. AreTurnsOf (g.S.Structure.meaning s) c.args.workers.now c.in_ok-sched.sched.run c.give_each.new.sched.run)
    c.in_ok-sched.ensures.structure c.give_each.ensures.turns in
    let shape = subst (λ s. IsImageOf (g.S.Structure.meaning s).layout c.in_ok-image.image)
    (c.give_each.ensures.structure ∙ c.in_ok-sched.ensures.structure) c.in_ok-image.ensures.shape in
    (whole_mapped (g.S.Structure.meaning c.args.structure) (c.runs_keep_headline.ensures c.args.structure) c.args.start.now c.args.work.items c.requires.start
    c.args.workers.now c.in_ok-sched.sched.run c.give_each.new.sched.run c.in_ok-sched.ensures.run turns (picks_of c.args.ahead.now)
    c.in_ok-image.image shape c.in_ok-image.ensures.words).0

pub recover_lawful_owned-requires-clause-lawful : goal.recover_lawful_owned-requires-clause-lawful
recover_lawful_owned-requires-clause-lawful g c =
    let turns = subst (λ s. AreTurnsOf (g.S.Structure.meaning s) c.args.workers.now c.in_ok-sched.sched.run c.give_each.new.sched.run)
    c.in_ok-sched.ensures.structure c.give_each.ensures.turns in
    let shape = subst (λ s. IsImageOf (g.S.Structure.meaning s).layout c.in_ok-image.image)
    (c.give_each.ensures.structure ∙ c.in_ok-sched.ensures.structure) c.in_ok-image.ensures.shape in
    (whole_mapped (g.S.Structure.meaning c.args.structure) (c.runs_keep_headline.ensures c.args.structure) c.args.start.now c.args.work.items c.requires.start
    c.args.workers.now c.in_ok-sched.sched.run c.give_each.new.sched.run c.in_ok-sched.ensures.run turns (picks_of c.args.ahead.now)
    c.in_ok-image.image shape c.in_ok-image.ensures.words).1

pub returns : goal.returns
returns g c =
    let turns = subst (λ s. AreTurnsOf (g.S.Structure.meaning s) c.args.workers.now c.in_ok-sched.sched.run c.give_each.new.sched.run)
    c.in_ok-sched.ensures.structure c.give_each.ensures.turns in
    let shape = subst (λ s. IsImageOf (g.S.Structure.meaning s).layout c.in_ok-image.image)
    (c.give_each.ensures.structure ∙ c.in_ok-sched.ensures.structure) c.in_ok-image.ensures.shape in
    leaves (g.S.Structure.meaning c.args.structure) (c.runs_keep_headline.ensures c.args.structure) c.args.start.now c.args.work.items c.requires.start
    c.args.workers.now c.in_ok-sched.sched.run c.give_each.new.sched.run c.in_ok-sched.ensures.run turns (picks_of c.args.ahead.now)
    c.in_ok-history.history.items c.in_ok-history.ensures.is c.in_ok-image.image shape c.in_ok-image.ensures.words c.in_ok-found.found
    c.in_ok-found.ensures.pairs
