use Rattle.std.proofs.Common.{◌≡◌, length, take}
use Rattle.flit_run_callers.specs.Crashes.{AreTurnsOf}
use Rattle.flit_run_callers.proofs.crashes.give_each.Given as goal

abbrev pub invariant-loop-worker : goal.invariant-loop-worker
invariant-loop-worker g l = record {
  turns : AreTurnsOf (g.S.Structure.meaning l.fn.sched.structure) (take l.worker-index l.workers) l.fn.sched.run l.sched.run;
  structure : l.sched.structure ≡ l.fn.sched.structure;
  long : length l.sched.run.parts ≡ length l.fn.sched.run.parts;
}
