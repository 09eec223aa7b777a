use Rattle.flit_image.proofs.HeaderLines.{none_weaker}
use Rattle.flit_trace.proofs.SentenceRefusals.{no_s}
use Rattle.flit_trace.proofs.sentences.begun_by_s.Goals as goal

pub returns-clause-none : goal.returns-clause-none
returns-clause-none c =
    none_weaker c.structure_of.result (no_s c.args.line.now c.requires c.in_default.ensures.none c.in_default-number_behind.ensures.none)
    c.structure_of.ensures.none
