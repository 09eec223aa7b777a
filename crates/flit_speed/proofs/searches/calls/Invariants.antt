use Rattle.std.proofs.Common.{◌≡◌}
use Rattle.flit_speed.specs.Benches.{IsAlone, HasReply}
use Rattle.flit_speed.proofs.searches.calls.Given as goal

abbrev pub invariant-loop : goal.invariant-loop
invariant-loop g l = (l.bench.structure ≡ l.fn.bench.structure) × IsAlone (g.S.Structure.meaning l.bench.structure) l.bench.calls l.bench.machine l.bench.op ×
    HasReply (g.S.Structure.meaning l.bench.structure) l.bench.op
