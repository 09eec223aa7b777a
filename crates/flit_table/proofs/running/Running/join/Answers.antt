use Rattle.std.proofs.Common.{rules, arith}
use mathlib.Core.Option.{none}
use Rattle.atomic_table.specs.Table.{step}
use Rattle.flit_table.proofs.TableSteps.{learns}
use Rattle.flit_table.proofs.running.Running.join.Goals as goal

pub load-requires : goal.load-requires
load-requires g c = (
  search rules,
  omega (arith, c.self.invariant.words),
  learns g.S.Structure.meaning g.met.S.Structure.lawful c.self.inside.table.shared.key _
      _ _ _ (step 0 0 0 0 none),
)
