use Rattle.std.proofs.Common.{◌≡◌, length}
use Rattle.flit_sched.specs.Turns.{Alone, left_at}
use Rattle.flit_sched.proofs.runs.Sched.run_alone.Given as goal

abbrev pub invariant-loop : goal.invariant-loop
invariant-loop g l = record {
  alone : Alone (g.S.Structure.meaning l.fn.self.structure) l.worker l.fn.self.run l.self.run;
  structure : l.self.structure ≡ l.fn.self.structure;
  long : length l.self.run.parts ≡ length l.fn.self.run.parts;
}

abbrev pub decreases-loop : goal.decreases-loop
decreases-loop g l = left_at l.self.run l.worker
