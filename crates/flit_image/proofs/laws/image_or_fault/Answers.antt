use Rattle.flit_image.proofs.FaultLaws.{no_image_fault, one_image_fault}
use Rattle.flit_image.proofs.ImageOrFault.{image_or_fault}
use Rattle.flit_image.proofs.laws.image_or_fault.Goals as goal

pub returns-clause-some : goal.returns-clause-some
returns-clause-some c = image_or_fault

pub returns-clause-image : goal.returns-clause-image
returns-clause-image c = no_image_fault

pub returns-clause-one : goal.returns-clause-one
returns-clause-one c = one_image_fault
