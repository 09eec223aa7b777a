use Rattle.std.proofs.Common.{◌≡◌}
use Rattle.flit_speed.specs.Benches.{IsAlone, HasReply}
use Rattle.flit_speed.proofs.searches.fill.Given as goal

abbrev pub invariant-loop-made : goal.invariant-loop-made
invariant-loop-made g l = (l.bench.structure ≡ l.fn.bench.structure) × IsAlone (g.S.Structure.meaning l.bench.structure) l.bench.calls l.bench.machine l.bench.op ×
    HasReply (g.S.Structure.meaning l.bench.structure) l.bench.op
