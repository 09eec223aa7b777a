use Rattle.std.proofs.Common.{◌≡◌, ◌++◌, drop}
use Rattle.flit_model.specs.Histories.{history_from, history_of}
use Rattle.flit_plain.proofs.placing.history.Given as goal

abbrev pub invariant-loop-position : goal.invariant-loop-position
invariant-loop-position l = l.history.items ++ history_from l.position (drop l.position l.updates) l.reads ≡ history_of l.updates l.reads
