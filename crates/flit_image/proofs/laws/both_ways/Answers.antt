use Rattle.flit_image.proofs.BothWays.{image_text_again, written_again}
use Rattle.flit_image.proofs.laws.both_ways.Goals as goal

pub returns-clause-read : goal.returns-clause-read
returns-clause-read c = image_text_again

pub returns-clause-written : goal.returns-clause-written
returns-clause-written c = written_again
