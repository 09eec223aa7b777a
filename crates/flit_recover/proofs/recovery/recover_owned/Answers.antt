use Rattle.std.proofs.lemmas.Result.{err_from_is_err_and}
use Rattle.flit_recover.proofs.recovery.recover_owned.Goals as goal

pub returns-clause-recovery : goal.returns-clause-recovery
returns-clause-recovery c =
    rw (c.within.ensures.keys, c.within.ensures.values, c.within.ensures.free)
    (rw (c.layout-layout.ensures, c.as_slice.ensures.value) at c.in_ok-holding.ensures.recovery)

pub returns-in_err-holding-clause-damage : goal.returns-in_err-holding-clause-damage
returns-in_err-holding-clause-damage c =
    let p = err_from_is_err_and c.from_residual.result c.from_residual.ensures.1 in
    rw (p.1, p.2) (rw (c.layout-layout.ensures, c.as_slice.ensures.value) at c.in_err-holding.ensures.damage)
