use Rattle.flit_table.proofs.Splitting.{splits_kept}
use Rattle.flit_table.proofs.Joining.{joins_behind, joins_before}
use Rattle.flit_table.proofs.rule_laws.seats_keep.Goals as goal

pub returns-clause-splits : goal.returns-clause-splits
returns-clause-splits g c = λ o m log a b v give. splits_kept (g.S.Structure.meaning o.structure.value) (g.met.S.Structure.lawful o.structure.value) o m log a b
    v give

pub returns-clause-joins : goal.returns-clause-joins
returns-clause-joins g c = λ o m log a b d v w. joins_behind (g.S.Structure.meaning o.structure.value) (g.met.S.Structure.lawful o.structure.value) o m log a b
    d v w

pub returns-clause-joins_before : goal.returns-clause-joins_before
returns-clause-joins_before g c = λ o m log a b d v w. joins_before (g.S.Structure.meaning o.structure.value) (g.met.S.Structure.lawful o.structure.value) o m
    log a b d v w
