use Rattle.flit_workers.proofs.GatheredNames.{all_names, all_belong}
use Rattle.flit_workers.proofs.gathered_laws.ended_gather.Goals as goal

pub returns-clause-belong : goal.returns-clause-belong
returns-clause-belong g c = λ home v works ends h. all_belong g.S.Structure.meaning home v 0 works ends h

pub returns-clause-names : goal.returns-clause-names
returns-clause-names g c = λ home v works ends pass first enough h t. all_names g.S.Structure.meaning home v works ends pass first enough h t
