use Rattle.std.proofs.lemmas.Result.{err_from_is_err_and}
use Rattle.flit_trace.proofs.drafts.Draft.take_hashed.Goals as goal

pub returns-in_err-slots-clause-err : goal.returns-in_err-slots-clause-err
returns-in_err-slots-clause-err c =
    let p = err_from_is_err_and c.from_residual.result c.from_residual.ensures.1 in
    rw (p.1, p.2) (rw c.takes_place-may_stand.ensures at c.in_err-slots.ensures.err _)
