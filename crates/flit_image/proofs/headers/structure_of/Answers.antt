use Rattle.std.proofs.Common.{◌≢◌, codes, arith}
use Rattle.std.proofs.lemmas.Slice.Eq.{slice_eq-Decides}
use Rattle.std.proofs.lemmas.Bool.Decides.{Decides-eqb, not_from_Decides}
use Rattle.flit_image.proofs.HeaderLines.{no_structure, same_number}
use Rattle.flit_image.proofs.headers.structure_of.Goals as goal

pub returns-in_err-buckets-clause-none : goal.returns-in_err-buckets-clause-none
returns-in_err-buckets-clause-none c =
    let no_list : c.args.line.now ≢ codes "structure list" = not_from_Decides _ (slice_eq-Decides Decides-eqb _ _ _ c.eq.ensures) c.if-eq.false in
    let no_tree : c.args.line.now ≢ codes "structure tree" = not_from_Decides _ (slice_eq-Decides Decides-eqb _ _ _ c.eq-2.ensures) c.if-eq-2.false in
    rw c.from_residual.ensures (no_structure c.args.line.now no_list no_tree (λ n least most. c.in_err-buckets.ensures.none n most))

pub returns-then-buckets-eq0-clause-none : goal.returns-then-buckets-eq0-clause-none
returns-then-buckets-eq0-clause-none c =
    let no_list : c.args.line.now ≢ codes "structure list" = not_from_Decides _ (slice_eq-Decides Decides-eqb _ _ _ c.eq.ensures) c.if-eq.false in
    let no_tree : c.args.line.now ≢ codes "structure tree" = not_from_Decides _ (slice_eq-Decides Decides-eqb _ _ _ c.eq-2.ensures) c.if-eq-2.false in
    no_structure c.args.line.now no_list no_tree (λ n least most is.
    omega (
      arith,
      same_number (codes "structure hash ") c.args.line.now c.in_ok-buckets.buckets n (omega arith) (omega arith) c.in_ok-buckets.ensures.some.0
          is,
    ))
