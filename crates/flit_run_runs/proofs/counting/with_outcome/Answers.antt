use Rattle.std.proofs.Common.{map, refl}
use Rattle.flit_run_runs.proofs.CountedOutcomes.{line_of, as_lines, one_more}
use Rattle.flit_run_runs.proofs.counting.with_outcome.Goals as goal

pub with_line-requires-clause-counts : goal.with_line-requires-clause-counts
with_line-requires-clause-counts c = (map (λ o. line_of o) c.requires.counts.0, as_lines c.args.counts c.requires.counts.0 c.requires.counts.1)

pub returns : goal.returns
returns c = λ os h.
    one_more c.with_line.result os c.args.outcome
    (c.with_line.ensures.counts (map (λ o. line_of o) os) (line_of c.args.outcome) refl (as_lines c.args.counts os h))
