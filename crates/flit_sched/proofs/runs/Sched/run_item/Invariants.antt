use Rattle.std.proofs.Common.{◌≡◌, length}
use Rattle.flit_sched.specs.Turns.{Alone, left_at, to_go_at}
use Rattle.flit_sched.proofs.runs.Sched.run_item.Given as goal

abbrev pub invariant-loop-self : goal.invariant-loop-self
invariant-loop-self g l = record {
  alone : Alone (g.S.Structure.meaning l.fn.self.structure) l.worker l.fn.self.run l.self.run;
  structure : l.self.structure ≡ l.fn.self.structure;
  long : length l.self.run.parts ≡ length l.fn.self.run.parts;
  left : left_at l.self.run l.worker ≡ l.left;
}

abbrev pub decreases-loop-self : goal.decreases-loop-self
decreases-loop-self g l = to_go_at (g.S.Structure.meaning l.self.structure) l.self.run l.worker
