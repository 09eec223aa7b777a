use Rattle.std.proofs.Common.{List, false, subst}
use Rattle.flit_model.specs.Recovery.{IsImageOf}
use Rattle.flit_report.specs.declared.content.Shown.{Shown}
use Rattle.flit_step_runs.specs.Plays.{IsPlayed}
use Rattle.flit_step_runs.proofs.HeldScripts.{holds_items}
use Rattle.flit_step_runs.proofs.OpenedLaws.{turns_left, names_left}
use Rattle.flit_step_runs.proofs.ReportLaws.{run_seen}
use Rattle.flit_step_runs.proofs.SummaryLaws.{is_summary}
use Rattle.flit_step_runs.proofs.TellingLaws.{whole_lawful}
use Rattle.flit_step_runs.proofs.summaries.summary_of_run.Goals as goal

pub run_of_works-requires : goal.run_of_works-requires
run_of_works-requires g c =
    let t = c.requires.0 in
    (t, c.in_ok-works.ensures t c.requires.1, turns_left c.args.trace c.in_ok-trace.trace t c.in_ok-trace.ensures c.requires.1, c.requires.2)

pub counts_of-counts-requires : goal.counts_of-counts-requires
counts_of-counts-requires g c =
    let t = c.requires.0 in
    let turns = turns_left c.args.trace c.in_ok-trace.trace t c.in_ok-trace.ensures c.requires.1 in (
      t,
      turns,
      holds_items (g.S.Structure.meaning c.args.structure) t c.args.start false c.in_ok-sched.sched.run c.new.result.items
          c.run_of_works.new.events.shown.items (c.in_ok-sched.ensures.played t (c.in_ok-works.ensures t c.requires.1) turns c.requires.2),
    )

pub count_lawful_keys-requires-clause-whole : goal.count_lawful_keys-requires-clause-whole
count_lawful_keys-requires-clause-whole g c =
    let meaning = g.S.Structure.meaning c.args.structure in
    let r = c.in_ok-sched.sched.run in
    let after = c.run_of_works.new.events.shown.items in
    let seen = run_seen meaning (c.plans_are_runs.ensures c.args.structure) c.args.start r false after c.args.trace c.requires
    (λ t shows can. subst (λ (b : List Shown). IsPlayed meaning t c.args.start false r b after) c.new.ensures.items
    (c.in_ok-sched.ensures.played t (c.in_ok-works.ensures t shows) (turns_left c.args.trace c.in_ok-trace.trace t c.in_ok-trace.ensures shows) can)) in
    let named = names_left c.args.trace c.in_ok-trace.trace c.ahead.result.now c.in_ok-trace.ensures c.ahead.ensures in
    (whole_lawful meaning c.args.trace r c.ahead.result.now c.in_ok-image.image seen named
    (subst (λ s. IsImageOf (g.S.Structure.meaning s).layout c.in_ok-image.image) c.in_ok-sched.ensures.structure c.in_ok-image.ensures.shape)
    c.in_ok-image.ensures.words).0

pub count_lawful_keys-requires-clause-lawful : goal.count_lawful_keys-requires-clause-lawful
count_lawful_keys-requires-clause-lawful g c =
    let meaning = g.S.Structure.meaning c.args.structure in
    let r = c.in_ok-sched.sched.run in
    let after = c.run_of_works.new.events.shown.items in
    let seen = run_seen meaning (c.plans_are_runs.ensures c.args.structure) c.args.start r false after c.args.trace c.requires
    (λ t shows can. subst (λ (b : List Shown). IsPlayed meaning t c.args.start false r b after) c.new.ensures.items
    (c.in_ok-sched.ensures.played t (c.in_ok-works.ensures t shows) (turns_left c.args.trace c.in_ok-trace.trace t c.in_ok-trace.ensures shows) can)) in
    let named = names_left c.args.trace c.in_ok-trace.trace c.ahead.result.now c.in_ok-trace.ensures c.ahead.ensures in
    (whole_lawful meaning c.args.trace r c.ahead.result.now c.in_ok-image.image seen named
    (subst (λ s. IsImageOf (g.S.Structure.meaning s).layout c.in_ok-image.image) c.in_ok-sched.ensures.structure c.in_ok-image.ensures.shape)
    c.in_ok-image.ensures.words).1

pub returns : goal.returns
returns g c = λ t shows can.
    let meaning = g.S.Structure.meaning c.args.structure in
    let r = c.in_ok-sched.sched.run in
    let after = c.run_of_works.new.events.shown.items in
    let turns = turns_left c.args.trace c.in_ok-trace.trace t c.in_ok-trace.ensures shows in
    let ran = c.in_ok-sched.ensures.played t (c.in_ok-works.ensures t shows) turns can in
    let played = subst (λ (b : List Shown). IsPlayed meaning t c.args.start false r b after) c.new.ensures.items ran in
    let has = c.in_ok-keys.ensures in
    is_summary meaning r after t has.keys has.values has.free (c.plans_are_runs.ensures c.args.structure) c.args.start c.args.trace c.ahead.result.now
    c.in_ok-image.image c.counts_of-counts.result c.in_ok-keys.keys c.in_ok-text.text.items shows can played
    (names_left c.args.trace c.in_ok-trace.trace c.ahead.result.now c.in_ok-trace.ensures c.ahead.ensures)
    (subst (λ s. IsImageOf (g.S.Structure.meaning s).layout c.in_ok-image.image) c.in_ok-sched.ensures.structure c.in_ok-image.ensures.shape)
    c.in_ok-image.ensures.words has.recovery
    (c.counts_of-counts.ensures t turns (holds_items meaning t c.args.start false r c.new.result.items after ran) can.lines) has.count_is c.in_ok-text.ensures
