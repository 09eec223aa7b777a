use Rattle.flit_trace.proofs.LawfulLines.{rising, scripts_rising, in_script, from_script}
use Rattle.flit_trace.proofs.laws.merged_scripts.Goals as goal

pub returns-clause-lines : goal.returns-clause-lines
returns-clause-lines c = rising

pub returns-clause-scripts : goal.returns-clause-scripts
returns-clause-scripts c = scripts_rising

pub returns-clause-same : goal.returns-clause-same
returns-clause-same c = λ items worker line i. (from_script items worker line i, in_script items worker line i)
