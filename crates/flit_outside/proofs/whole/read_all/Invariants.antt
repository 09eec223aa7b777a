use Rattle.std.proofs.Common.{◌≡◌, ◌-◌, ◌<◌, ◌≤◌, [], IfSome, vec_len}
use Rattle.flit_outside.specs.Outside.{Appends}
use Rattle.flit_outside.proofs.whole.read_all.Given as goal

-- the bytes so far are the front of what the source told, and it has the rest; no read has failed
abbrev pub invariant-loop-room : goal.invariant-loop-room
invariant-loop-room g l = record {
  within : vec_len l.bytes ≤ l.limit;
  room : 0 < vec_len l.room;
  so_far : IfSome (g.S.Source.left l.fn.source) (λ input. Appends input (vec_len l.bytes) [] l.bytes.items (g.S.Source.left l.source));
  steady : g.S.Source.faults l.source ≡ g.S.Source.faults l.fn.source;
}

abbrev pub decreases-loop-room : goal.decreases-loop-room
decreases-loop-room g l = l.limit - vec_len l.bytes
