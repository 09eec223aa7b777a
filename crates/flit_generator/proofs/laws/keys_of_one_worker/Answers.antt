use Rattle.flit_generator.proofs.OwnKeys.{rest_is, one_is}
use Rattle.flit_generator.proofs.laws.keys_of_one_worker.Goals as goal

pub returns-clause-rest : goal.returns-clause-rest
returns-clause-rest c = rest_is

pub returns-clause-one : goal.returns-clause-one
returns-clause-one c = one_is
