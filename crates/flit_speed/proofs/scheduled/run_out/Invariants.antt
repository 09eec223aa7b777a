use Rattle.flit_sched.specs.Views.{HasWorker}
use Rattle.flit_speed.proofs.scheduled.run_out.Given as goal

abbrev pub invariant-loop-made : goal.invariant-loop-made
invariant-loop-made g l = HasWorker l.run.run 1
