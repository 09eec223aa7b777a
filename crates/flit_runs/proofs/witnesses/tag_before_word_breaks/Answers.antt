use Rattle.flit_runs.proofs.WrongRuns.{tag-before-word}
use Rattle.flit_runs.proofs.witnesses.tag_before_word_breaks.Goals as goal

pub returns : goal.returns
returns c = tag-before-word
