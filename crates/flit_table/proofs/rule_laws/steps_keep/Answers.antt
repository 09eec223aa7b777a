use Rattle.flit_table.proofs.Beginning.{begins_kept}
use Rattle.flit_table.proofs.Moving.{moves_kept}
use Rattle.flit_table.proofs.Ending.{rests_kept}
use Rattle.flit_table.proofs.rule_laws.steps_keep.Goals as goal

pub returns-clause-begins : goal.returns-clause-begins
returns-clause-begins g c = λ o m log a b v start. begins_kept (g.S.Structure.meaning o.structure.value) (g.met.S.Structure.lawful o.structure.value) o m log
    start a b v

pub returns-clause-moves : goal.returns-clause-moves
returns-clause-moves g c = λ o m log a b v e. moves_kept (g.S.Structure.meaning o.structure.value) (g.met.S.Structure.lawful o.structure.value) o m log e a b v

pub returns-clause-rests : goal.returns-clause-rests
returns-clause-rests g c = λ o m log a b v some whole k.
    let r = rests_kept (g.S.Structure.meaning o.structure.value) (g.met.S.Structure.lawful o.structure.value) o m log a b v some whole k in
    (r.reads, r.kept, r.late)
