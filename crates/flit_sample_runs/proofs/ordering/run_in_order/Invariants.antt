use Rattle.std.proofs.Common.{◌≡◌, length}
use Rattle.flit_sample_runs.specs.InOrder.{InOrder}
use Rattle.flit_sample_runs.proofs.ordering.run_in_order.Given as goal

abbrev pub invariant-loop-before : goal.invariant-loop-before
invariant-loop-before g l = record {
  order : InOrder (g.S.Structure.meaning l.fn.run.structure) l.before l.fn.run.run l.run.run;
  structure : l.run.structure ≡ l.fn.run.structure;
  long : length l.run.run.parts ≡ length l.fn.run.run.parts;
}
