use Rattle.flit_recover.proofs.FirstDamages.{lawful_or_damaged, undamaged_if_lawful, first_damage_once}
use Rattle.flit_recover.proofs.laws.one_damage_of_lists.Goals as goal

pub returns-clause-some : goal.returns-clause-some
returns-clause-some c = λ l image chained whole. lawful_or_damaged l image chained whole

pub returns-clause-apart : goal.returns-clause-apart
returns-clause-apart c = λ l image chain d chained lawful. undamaged_if_lawful l image chain d chained lawful

pub returns-clause-one : goal.returns-clause-one
returns-clause-one c = λ l image d e chained v w. first_damage_once l image d e chained v w
