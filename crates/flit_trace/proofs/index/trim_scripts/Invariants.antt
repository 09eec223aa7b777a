use Rattle.std.proofs.Common.{◌≡◌, map}
use Rattle.flit_trace.proofs.index.trim_scripts.Given as goal

abbrev pub invariant-loop-place : goal.invariant-loop-place
invariant-loop-place l = map (λ script. script.items) l.scripts.items ≡ map (λ script. script.items) l.fn.scripts.items
