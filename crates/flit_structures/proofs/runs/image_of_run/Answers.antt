use Rattle.std.proofs.Common.{List, false, subst}
use Rattle.flit_model.specs.Recovery.{IsImageOf}
use Rattle.flit_report.specs.declared.content.Shown.{Shown}
use Rattle.flit_step_runs.specs.Plays.{IsPlayed}
use Rattle.flit_step_runs.proofs.ReportLaws.{run_seen}
use Rattle.flit_step_runs.proofs.TellingLaws.{whole_lawful}
use Rattle.flit_structures.proofs.WantedTexts.{image_played}
use Rattle.flit_structures.proofs.runs.image_of_run.Goals as goal

pub returns-clause-whole : goal.returns-clause-whole
returns-clause-whole g c =
    let meaning = g.S.Structure.meaning c.args.structure in
    let r = c.in_ok-sched.sched.run in
    let after = c.run_of.new.events.shown.items in
    let seen = run_seen meaning (c.plans_are_runs.ensures c.args.structure) c.args.start r false after c.args.trace.now c.requires
    (λ t shows can. subst (λ (b : List Shown). IsPlayed meaning t c.args.start false r b after) c.new.ensures.items
    (c.in_ok-sched.ensures.played t shows can)) in
    (whole_lawful meaning c.args.trace.now r c.ahead-ahead.result.now c.in_ok-image.image seen c.ahead-ahead.ensures
    (subst (λ s. IsImageOf (g.S.Structure.meaning s).layout c.in_ok-image.image) c.in_ok-sched.ensures.structure c.in_ok-image.ensures.shape)
    c.in_ok-image.ensures.words).0

pub returns-clause-image : goal.returns-clause-image
returns-clause-image g c = λ t shows can.
    image_played (g.S.Structure.meaning c.args.structure) (c.plans_are_runs.ensures c.args.structure) c.args.trace.now t c.args.start
    c.in_ok-sched.sched.run false _ c.run_of.new.events.shown.items c.ahead-ahead.result.now c.in_ok-image.image shows can
    (c.in_ok-sched.ensures.played t shows can) c.ahead-ahead.ensures
    (subst (λ s. IsImageOf (g.S.Structure.meaning s).layout c.in_ok-image.image) c.in_ok-sched.ensures.structure c.in_ok-image.ensures.shape)
    c.in_ok-image.ensures.words
