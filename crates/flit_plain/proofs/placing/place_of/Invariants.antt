use Rattle.flit_plain.proofs.Orders.{GoesInto}
use Rattle.flit_plain.proofs.placing.place_of.Given as goal

abbrev pub invariant-loop-place : goal.invariant-loop-place
invariant-loop-place l = GoesInto l.read l.entries l.start l.place
