use Rattle.flit_image.proofs.OneImage.{one_shape, one_list}
use Rattle.flit_image.proofs.laws.one_image.Goals as goal

pub returns-clause-shape : goal.returns-clause-shape
returns-clause-shape c = one_shape

pub returns-clause-words : goal.returns-clause-words
returns-clause-words c = one_list
