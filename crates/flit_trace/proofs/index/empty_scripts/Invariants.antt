use Rattle.std.proofs.Common.{◌≡◌, [], length, map}
use Rattle.std.specs.List.{AllByRecursion}
use Rattle.flit_trace.proofs.index.empty_scripts.Given as goal

abbrev pub invariant-loop-worker : goal.invariant-loop-worker
invariant-loop-worker l = record {
  many : length l.scripts.items ≡ l._worker;
  empty : AllByRecursion (λ script. script ≡ []) (map (λ script. script.items) l.scripts.items);
}
