use Rattle.flit_step_runs.proofs.OrderedLines.{ordered_told}
use Rattle.flit_step_runs.proofs.lines.lines_of.Goals as goal

pub returns : goal.returns
returns g c = λ t shows rising right.
    ordered_told c.args.sched.now.run c.args.trace.now t c.in_ok-told.told.items c.in_ok-lines.lines.items shows rising right c.in_ok-told.ensures
    c.in_ok-lines.ensures
