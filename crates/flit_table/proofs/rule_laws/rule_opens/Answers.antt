use Rattle.flit_table.proofs.Opening.{opens_kept}
use Rattle.flit_table.proofs.rule_laws.rule_opens.Goals as goal

pub returns : goal.returns
returns g c = λ o opens. opens_kept (g.S.Structure.meaning o.structure.value) (g.met.S.Structure.lawful o.structure.value) o opens
