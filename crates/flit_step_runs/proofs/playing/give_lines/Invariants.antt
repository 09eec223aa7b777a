use Rattle.std.proofs.Common.{◌≡◌, ◌++◌, length}
use Rattle.flit_turns.specs.Lines.{ShowsLines, turn_lines}
use Rattle.flit_step_runs.proofs.playing.give_lines.Given as goal

-- the turns of the lines so far were given, and the other lines are left
abbrev pub invariant-loop-worker : goal.invariant-loop-worker
invariant-loop-worker g l = record {
  lines : ShowsLines (g.S.Structure.meaning l.fn.sched.structure) (turn_lines l.yielded) l.fn.sched.run l.sched.run l.fn.events.kept
      l.fn.events.shown.items l.events.shown.items;
  structure : l.sched.structure ≡ l.fn.sched.structure;
  kept : l.events.kept ≡ l.fn.events.kept;
  long : length l.sched.run.parts ≡ length l.fn.sched.run.parts;
  rest : l.fn.turns ≡ l.yielded ++ l.worker-iterator;
}
