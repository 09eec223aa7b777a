use Rattle.flit_recover.proofs.TreeDamages.{undamaged_if_lawful, first_damage_once}
use Rattle.flit_recover.proofs.TreeOrDamage.{lawful_or_damaged}
use Rattle.flit_recover.proofs.laws.one_damage_of_trees.Goals as goal

pub returns-clause-some : goal.returns-clause-some
returns-clause-some c = λ l image accepted grown whole. lawful_or_damaged l image accepted grown whole

pub returns-clause-apart : goal.returns-clause-apart
returns-clause-apart c = λ l image t d accepted grown lawful. undamaged_if_lawful l image accepted grown t d lawful

pub returns-clause-one : goal.returns-clause-one
returns-clause-one c = λ l image d e accepted grown v w. first_damage_once l image accepted grown d e v w
