use Rattle.std.proofs.Common.{ap, subst, ◌++◌, arith}
use Rattle.flit_turns.specs.Lines.{ShowsLines, turn_lines, last_lines}
use Rattle.flit_step_runs.proofs.OpenedLaws.{opened_long, turns_named, is_played}
use Rattle.flit_step_runs.proofs.opened.run_of_works.Goals as goal

pub open-requires-clause-opens : goal.open-requires-clause-opens
open-requires-clause-opens g c = (c.requires.3.starts c.args.works.items c.requires.1).opens

pub open-requires-clause-found : goal.open-requires-clause-found
open-requires-clause-found g c = (c.requires.3.starts c.args.works.items c.requires.1).found

pub open-requires-clause-right : goal.open-requires-clause-right
open-requires-clause-right g c = (c.requires.3.starts c.args.works.items c.requires.1).right

pub play-requires-clause-turns : goal.play-requires-clause-turns
play-requires-clause-turns g c =
    let meaning = g.S.Structure.meaning c.args.structure in
    let t = c.requires.0 in
    let works = c.args.works.items in
    turns_named meaning c.args.start t works c.args.trace.now c.in_ok-sched.sched.run c.requires.2
    (opened_long meaning c.args.start t works c.in_ok-sched.sched.run c.in_ok-sched.ensures.run c.requires.1) c.requires.3

pub play-requires-clause-workers : goal.play-requires-clause-workers
play-requires-clause-workers g c =
    let meaning = g.S.Structure.meaning c.args.structure in
    let t = c.requires.0 in
    let works = c.args.works.items in
    let long = opened_long meaning c.args.start t works c.in_ok-sched.sched.run c.in_ok-sched.ensures.run c.requires.1 in
    let workers = ap (λ h. h.layout.workers) c.requires.2.head in
    omega (arith, long, workers)

pub returns-clause-played : goal.returns-clause-played
returns-clause-played g c = λ t are shows can.
    let lines = subst (λ s. ShowsLines (g.S.Structure.meaning s) (turn_lines c.args.trace.now.turns ++ last_lines c.args.trace.now.head.layout.workers)
    c.in_ok-sched.sched.run c.play.new.sched.run c.args.events.now.kept c.args.events.now.shown.items c.play.new.events.shown.items)
    c.in_ok-sched.ensures.structure c.in_ok-play.ensures.lines in
    is_played (g.S.Structure.meaning c.args.structure) c.args.start t c.args.works.items c.args.trace.now c.in_ok-sched.sched.run
    c.play.new.sched.run c.args.events.now.kept c.args.events.now.shown.items c.play.new.events.shown.items shows can
    are c.in_ok-sched.ensures.run lines
