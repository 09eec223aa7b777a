use Rattle.std.proofs.Common.{ℕ, List, subst, sym, ap, ◌≤◌, length}
use Rattle.flit_turns.specs.Lines.{ShowsLines, turn_lines, last_lines}
use Rattle.flit_step_runs.proofs.PlayLaws.{lines_behind, lines_long}
use Rattle.flit_step_runs.proofs.playing.play.Goals as goal

pub run_all-requires : goal.run_all-requires
run_all-requires g c =
    let long = lines_long (g.S.Structure.meaning c.args.sched.now.structure) c.args.sched.now.run c.give_lines.new.sched.run (turn_lines c.turns.result)
    c.args.events.now.kept c.args.events.now.shown.items c.give_lines.new.events.shown.items c.in_ok-give_lines.ensures.lines in
    subst (λ n. n ≤ length c.give_lines.new.sched.run.parts) (sym (ap (λ h. h.layout.workers) c.head.ensures.is))
    (subst (λ n. c.args.trace.now.head.layout.workers ≤ n) (sym long) c.requires.workers)

pub returns-clause-lines : goal.returns-clause-lines
returns-clause-lines g c =
    let meaning = g.S.Structure.meaning c.args.sched.now.structure in
    let front = subst (λ (ts : List (ℕ × ℕ)). ShowsLines meaning (turn_lines ts) c.args.sched.now.run c.give_lines.new.sched.run c.args.events.now.kept
    c.args.events.now.shown.items c.give_lines.new.events.shown.items) c.turns.ensures c.in_ok-give_lines.ensures.lines in
    let back = subst (λ s. ShowsLines (g.S.Structure.meaning s) (last_lines c.args.trace.now.head.layout.workers) c.give_lines.new.sched.run
    c.run_all.new.sched.run c.give_lines.new.events.kept c.give_lines.new.events.shown.items c.run_all.new.events.shown.items)
    c.in_ok-give_lines.ensures.structure
    (subst (λ n. ShowsLines (g.S.Structure.meaning c.give_lines.new.sched.structure) (last_lines n) c.give_lines.new.sched.run c.run_all.new.sched.run
    c.give_lines.new.events.kept c.give_lines.new.events.shown.items c.run_all.new.events.shown.items) (ap (λ h. h.layout.workers) c.head.ensures.is)
    c.in_ok-run_all.ensures.lines) in
    lines_behind meaning c.args.sched.now.run c.give_lines.new.sched.run c.run_all.new.sched.run (turn_lines c.args.trace.now.turns)
    (last_lines c.args.trace.now.head.layout.workers) c.args.events.now.kept c.give_lines.new.events.kept c.args.events.now.shown.items
    c.give_lines.new.events.shown.items c.run_all.new.events.shown.items c.in_ok-give_lines.ensures.kept front back
