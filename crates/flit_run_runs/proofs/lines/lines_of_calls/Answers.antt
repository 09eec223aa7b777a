use Rattle.std.proofs.Common.{map}
use Rattle.flit_run_runs.proofs.MergedCalls.{tells_calls}
use Rattle.flit_run_runs.proofs.lines.lines_of_calls.Goals as goal

pub returns : goal.returns
returns c = λ t shows rising right.
    tells_calls c.args.trace.now t (map (λ os. os.items) c.args.outcomes.now) c.in_ok-told.told.items c.in_ok-lines.lines.items shows rising right
    c.in_ok-told.ensures c.in_ok-lines.ensures
