use Rattle.std.proofs.lemmas.Slice.Eq.{slice_eq-Decides}
use Rattle.std.proofs.lemmas.Bool.Decides.{Decides-eqb, not_from_Decides}
use Rattle.flit_trace.proofs.SentenceRefusals.{no_structure}
use Rattle.flit_trace.proofs.sentences.structure_of.Goals as goal

pub returns-in_err-buckets-clause-none : goal.returns-in_err-buckets-clause-none
returns-in_err-buckets-clause-none c =
    rw c.from_residual.ensures (no_structure c.args.line.now
    (not_from_Decides _ (slice_eq-Decides Decides-eqb _ _ _ c.eq.ensures) c.if-eq.false)
    (not_from_Decides _ (slice_eq-Decides Decides-eqb _ _ _ c.eq-2.ensures) c.if-eq-2.false)
    c.in_err-buckets.ensures.none)
