use Rattle.std.proofs.Common.{◌≡◌, ◌-◌, ◌≤◌, ◌++◌, length, take, Some, IfSome}
use Rattle.flit_outside.proofs.whole.write_all.Given as goal

-- the first `written` bytes stand behind what the sink had taken, and no write has failed
abbrev pub invariant-loop-written : goal.invariant-loop-written
invariant-loop-written g l = record {
  within : l.written ≤ length l.bytes;
  so_far : IfSome (g.K.Sink.taken l.fn.sink) (λ before. g.K.Sink.taken l.sink ≡ Some (before ++ take l.written l.bytes));
  steady : g.K.Sink.faults l.sink ≡ g.K.Sink.faults l.fn.sink;
  nothing : length l.bytes ≡ 0 → l.sink ≡ l.fn.sink;
}

abbrev pub decreases-loop-written : goal.decreases-loop-written
decreases-loop-written g l = length l.bytes - l.written
