use Rattle.std.proofs.Common.{◌∙◌, List, sym, subst}
use Rattle.flit_report.specs.Report.{content_of}
use Rattle.flit_report.specs.declared.content.Shown.{Shown}
use Rattle.flit_step_runs.specs.Plays.{IsPlayed, IsRunSeen, TellsRunSeen}
use Rattle.flit_step_runs.proofs.HeldScripts.{holds_scripts}
use Rattle.flit_step_runs.proofs.ReportLaws.{run_seen, is_report}
use Rattle.flit_step_runs.proofs.reports.report_of_run.Goals as goal

pub lines_of-requires : goal.lines_of-requires
lines_of-requires g c =
    holds_scripts (g.S.Structure.meaning c.args.structure) c.args.trace.now c.requires.0 c.args.start c.args.shows c.in_ok-sched.sched.run
    c.new.result.items c.run_of.new.events.shown.items c.requires.1 (c.in_ok-sched.ensures.played c.requires.0 c.requires.1 c.requires.2)

pub tell-requires : goal.tell-requires
tell-requires g c =
    let meaning = g.S.Structure.meaning c.args.structure in
    let r = c.in_ok-sched.sched.run in
    let after = c.run_of.new.events.shown.items in
    subst (λ s. IsRunSeen (g.S.Structure.meaning s) c.args.trace.now r) (sym c.in_ok-sched.ensures.structure)
    (run_seen meaning (c.plans_are_runs.ensures c.args.structure) c.args.start r c.args.shows after c.args.trace.now c.requires
    (λ t shows can. subst (λ (b : List Shown). IsPlayed meaning t c.args.start c.args.shows r b after) c.new.ensures.items
    (c.in_ok-sched.ensures.played t shows can)))

pub returns-clause-report : goal.returns-clause-report
returns-clause-report g c = λ t shows can.
    let meaning = g.S.Structure.meaning c.args.structure in
    let r = c.in_ok-sched.sched.run in
    let after = c.run_of.new.events.shown.items in
    let played = subst (λ (b : List Shown). IsPlayed meaning t c.args.start c.args.shows r b after) c.new.ensures.items
    (c.in_ok-sched.ensures.played t shows can) in
    let tells = subst (λ s. TellsRunSeen (g.S.Structure.meaning s) c.args.trace.now r (content_of c.in_ok-report.report)) c.in_ok-sched.ensures.structure
    c.in_ok-report.ensures.tells in
    is_report meaning (c.plans_are_runs.ensures c.args.structure) c.args.start r c.args.shows after t (content_of c.in_ok-report.report) played
    c.in_ok-report.ensures.events
    (c.in_ok-report.ensures.lines ∙ c.in_ok-lines.ensures t shows can.rising can.lines) (tells t shows can.shape)
