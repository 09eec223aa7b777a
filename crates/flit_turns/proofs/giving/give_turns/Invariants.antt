use Rattle.std.proofs.Common.{◌-◌, ◌≡◌, ◌≤◌, length}
use Rattle.flit_turns.specs.Lines.{ShowsSome}
use Rattle.flit_turns.proofs.giving.give_turns.Given as goal

abbrev pub invariant-loop-made : goal.invariant-loop-made
invariant-loop-made g l = record {
  made : ShowsSome (g.S.Structure.meaning l.fn.sched.structure) l.worker l.made l.fn.sched.run l.sched.run l.fn.events.kept l.fn.events.shown.items
      l.events.shown.items;
  structure : l.sched.structure ≡ l.fn.sched.structure;
  kept : l.events.kept ≡ l.fn.events.kept;
  long : length l.sched.run.parts ≡ length l.fn.sched.run.parts;
  within : l.made ≤ l.most;
}

abbrev pub decreases-loop-made : goal.decreases-loop-made
decreases-loop-made g l = l.most - l.made
