use Rattle.std.proofs.Common.{◌≡◌}
use Rattle.flit_speed.specs.Benches.{IsAlone}
use Rattle.flit_speed.proofs.benches.Bench.finishes.Given as goal

abbrev pub invariant-loop : goal.invariant-loop
invariant-loop g l = IsAlone (g.S.Structure.meaning l.self.structure) l.self.calls l.self.machine l.self.op × (l.self.structure ≡ l.fn.self.structure)

abbrev pub decreases-loop : goal.decreases-loop
decreases-loop g l = (g.S.Structure.meaning l.self.structure).to_go l.self.machine l.self.op
