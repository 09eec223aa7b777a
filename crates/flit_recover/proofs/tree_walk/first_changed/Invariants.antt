use Rattle.flit_recover.specs.TreeFinds.{AreFresh}
use Rattle.flit_recover.proofs.tree_walk.first_changed.Given as goal

abbrev pub invariant-loop-word : goal.invariant-loop-word
invariant-loop-word l = AreFresh l.layout l.words l.from l.word
