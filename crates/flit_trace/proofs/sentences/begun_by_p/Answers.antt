use Rattle.std.proofs.lemmas.Slice.Eq.{slice_eq-Decides}
use Rattle.std.proofs.lemmas.Bool.Decides.{Decides-eqb, not_from_Decides}
use Rattle.flit_trace.proofs.SentenceRefusals.{no_p}
use Rattle.flit_trace.proofs.sentences.begun_by_p.Goals as goal

pub returns-in_err-slots-clause-none : goal.returns-in_err-slots-clause-none
returns-in_err-slots-clause-none c =
    rw c.from_residual.ensures (no_p c.args.line.now c.requires
    (not_from_Decides _ (slice_eq-Decides Decides-eqb _ _ _ c.eq.ensures) c.if-eq.false)
    (not_from_Decides _ (slice_eq-Decides Decides-eqb _ _ _ c.eq-2.ensures) c.if-eq-2.false)
    (not_from_Decides _ (slice_eq-Decides Decides-eqb _ _ _ c.eq-3.ensures) c.if-eq-3.false)
    c.in_err-slots.ensures.none)
