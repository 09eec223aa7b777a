use Rattle.flit_table.specs.Passes.{BelongsTo}
use Rattle.flit_speed.proofs.searches.fill_shared.Given as goal

abbrev pub invariant-loop-made : goal.invariant-loop-made
invariant-loop-made g l = BelongsTo g.S.Structure.meaning l.running l.pass
