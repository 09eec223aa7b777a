use Rattle.flit_trace.proofs.SentenceRefusals.{no_w}
use Rattle.flit_trace.proofs.sentences.begun_by_w.Goals as goal

pub returns-in_err-workers-clause-none : goal.returns-in_err-workers-clause-none
returns-in_err-workers-clause-none c =
    rw c.from_residual.ensures (no_w c.args.line.now c.requires c.in_default.ensures.none c.in_err-workers.ensures.none)
