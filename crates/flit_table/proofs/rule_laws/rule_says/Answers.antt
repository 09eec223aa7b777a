use Rattle.flit_table.specs.Rule.{moment_of}
use Rattle.flit_table.specs.Views.{all_workers}
use Rattle.flit_table.proofs.Saying.{here, seen_first, seen_legal, history_legal, history_map, in_order, whole_order}
use Rattle.flit_table.proofs.rule_laws.rule_says.Goals as goal

pub returns-clause-crash : goal.returns-clause-crash
returns-clause-crash g c = λ o m log views picks k. (g.met.S.Structure.lawful o.structure.value).crash (moment_of o m log (all_workers views)) picks k.holds

pub returns-clause-names : goal.returns-clause-names
returns-clause-names g c = λ o m log views k. ((g.met.S.Structure.lawful o.structure.value).named (moment_of o m log (all_workers views)) k.holds).different

pub returns-clause-seen : goal.returns-clause-seen
returns-clause-seen g c = λ o m log a b v. seen_first (g.S.Structure.meaning o.structure.value) (g.met.S.Structure.lawful o.structure.value) o m log a b v

pub returns-clause-legal : goal.returns-clause-legal
returns-clause-legal g c = λ o m log a b v k. (
  seen_legal (g.S.Structure.meaning o.structure.value) (g.met.S.Structure.lawful o.structure.value) o m log a b v
      k,
  history_legal (g.S.Structure.meaning o.structure.value) (g.met.S.Structure.lawful o.structure.value) o m log a b v k,
)

pub returns-clause-map : goal.returns-clause-map
returns-clause-map g c = λ o m log a b v. history_map (g.S.Structure.meaning o.structure.value) (g.met.S.Structure.lawful o.structure.value) o m log a b v

pub returns-clause-order : goal.returns-clause-order
returns-clause-order g c = λ o m log a b v k. (
  in_order (g.S.Structure.meaning o.structure.value) (g.met.S.Structure.lawful o.structure.value) o m log a b v k,
  whole_order (g.S.Structure.meaning o.structure.value) (g.met.S.Structure.lawful o.structure.value) o m log a b v k,
)

pub returns-clause-queued : goal.returns-clause-queued
returns-clause-queued g c = λ o m log a b v k. (here (g.S.Structure.meaning o.structure.value) (g.met.S.Structure.lawful o.structure.value) o m log a b v k).queued
