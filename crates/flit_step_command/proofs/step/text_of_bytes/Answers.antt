use Rattle.std.proofs.lemmas.Result.{err_from_is_err_and}
use Rattle.flit_structures.proofs.RefusalLaws.{has_no_report, of_bytes}
use Rattle.flit_step_command.proofs.step.text_of_bytes.Goals as goal

pub returns-in_err-text-clause-kind : goal.returns-in_err-text-clause-kind
returns-in_err-text-clause-kind c =
    let p = err_from_is_err_and c.from_residual.result c.from_residual.ensures.1 in
    rw (p.1, p.2) (of_bytes _)

pub returns-in_err-text-clause-none : goal.returns-in_err-text-clause-none
returns-in_err-text-clause-none c =
    let p = err_from_is_err_and c.from_residual.result c.from_residual.ensures.1 in
    rw (p.1, p.2) (has_no_report c.args.bytes.items _ c.in_err-text.ensures.none)
