use Rattle.std.proofs.Common.{rules, arith}
use Rattle.flit_table.proofs.TableSteps.{splits}
use Rattle.flit_table.proofs.running.Running.cut_as.Goals as goal

pub split_seat-requires : goal.split_seat-requires
split_seat-requires g c = (
  search rules,
  omega (arith, c.self.invariant.words),
  splits g.S.Structure.meaning g.met.S.Structure.lawful c.self.inside.table.shared.key _ _ _
      c.requires.give.0 c.requires.give.1,
)
