use Rattle.std.proofs.Common.{◌≡◌, ℕ, length}
use Rattle.flit_sched.specs.Turns.{left_at, to_go_at}
use Rattle.flit_turns.specs.Lines.{ShowsSome}
use Rattle.flit_turns.proofs.alone.show_item.Given as goal

abbrev pub invariant-turns : goal.invariant-turns
invariant-turns g l = record {
  made : (made : ℕ) × ShowsSome (g.S.Structure.meaning l.fn.sched.structure) l.worker made l.fn.sched.run l.sched.run l.fn.events.kept
      l.fn.events.shown.items l.events.shown.items;
  structure : l.sched.structure ≡ l.fn.sched.structure;
  kept : l.events.kept ≡ l.fn.events.kept;
  long : length l.sched.run.parts ≡ length l.fn.sched.run.parts;
  left : left_at l.sched.run l.worker ≡ l.left;
}

abbrev pub decreases-turns : goal.decreases-turns
decreases-turns g l = to_go_at (g.S.Structure.meaning l.sched.structure) l.sched.run l.worker
