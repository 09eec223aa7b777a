use Rattle.flit_table.specs.Passes.{BelongsTo}
use Rattle.flit_speed.proofs.shared.answers.Given as goal

abbrev pub invariant-loop : goal.invariant-loop
invariant-loop g l = BelongsTo g.S.Structure.meaning l.running l.pass
