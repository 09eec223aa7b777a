use Rattle.flit_step_sentences.proofs.OwnLines.{numbered}
use Rattle.flit_step_sentences.proofs.laws.lines_are_numbered.Goals as goal

pub returns : goal.returns
returns c = numbered
