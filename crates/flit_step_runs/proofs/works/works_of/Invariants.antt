use Rattle.flit_step_runs.proofs.WorkLaws.{HasWorks}
use Rattle.flit_step_runs.proofs.works.works_of.Given as goal

abbrev pub invariant-loop-before : goal.invariant-loop-before
invariant-loop-before l = HasWorks l.trace l.before l.works.items
