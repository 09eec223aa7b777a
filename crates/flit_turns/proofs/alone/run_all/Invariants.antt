use Rattle.std.proofs.Common.{◌≡◌, length}
use Rattle.flit_turns.specs.Lines.{ShowsLines, last_lines}
use Rattle.flit_turns.proofs.alone.run_all.Given as goal

abbrev pub invariant-loop-before : goal.invariant-loop-before
invariant-loop-before g l = record {
  lines : ShowsLines (g.S.Structure.meaning l.fn.sched.structure) (last_lines l.before) l.fn.sched.run l.sched.run l.fn.events.kept
      l.fn.events.shown.items l.events.shown.items;
  structure : l.sched.structure ≡ l.fn.sched.structure;
  kept : l.events.kept ≡ l.fn.events.kept;
  long : length l.sched.run.parts ≡ length l.fn.sched.run.parts;
}
