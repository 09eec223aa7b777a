use Rattle.std.proofs.lemmas.Result.{err_from_is_err_and}
use Rattle.flit_structures.proofs.RefusalLaws.{has_no_report, of_bytes}
use Rattle.flit_run_command.proofs.run.told_of_input.Goals as goal

pub returns-in_err-told-clause-kind : goal.returns-in_err-told-clause-kind
returns-in_err-told-clause-kind g c =
    let p = err_from_is_err_and c.from_residual.result c.from_residual.ensures.1 in
    rw (p.1, p.2) (of_bytes _)

pub returns-in_err-told-clause-none : goal.returns-in_err-told-clause-none
returns-in_err-told-clause-none g c =
    let p = err_from_is_err_and c.from_residual.result c.from_residual.ensures.1 in
    rw (p.1, p.2) (has_no_report c.args.input.items _ c.in_err-told.ensures.none)
