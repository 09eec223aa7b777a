use Rattle.std.proofs.Common.{ℕ, None}
use Rattle.flit_table.specs.Passes.{IsCalling}
use Rattle.flit_table.proofs.running.Running.answer.Given as goal

abbrev pub invariant-loop : goal.invariant-loop
invariant-loop g l = (made : ℕ) × IsCalling (g.S.Structure.meaning l.self.origin.structure.value) l.self l.start l.fn.call l.fn.pass.held l.pass.held made None
