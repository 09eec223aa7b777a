use Rattle.flit_trace.proofs.SentenceTexts.{one_sentence}
use Rattle.flit_trace.proofs.sentences.one_sentence.Goals as goal

pub returns : goal.returns
returns c = one_sentence
