use Rattle.std.proofs.Common.{◌≤◌, length, ap, arith, Err}
use Rattle.std.proofs.lemmas.Grind.{common_steps}
use Rattle.std.proofs.lemmas.Result.{IfErr-weaker, err_from_is_err_and}
use Rattle.flit_structures.specs.Refusals.{HasNoReport}
use Rattle.flit_statuses.proofs.AnswerLaws.{leaves_whole, blames_error}
use Rattle.flit_run_command.proofs.run.told_of_source.Goals as goal

pub returns-in_err-input-clause-blames : goal.returns-in_err-input-clause-blames
returns-in_err-input-clause-blames g c =
    let p = err_from_is_err_and c.from_residual.result c.from_residual.ensures.1 in
    rw (p.1, p.2) (blames_error HasNoReport _ (g.S.Source.left c.args.source.now) (λ e. c.in_err-input.ensures.too_long (ap Err e)))

pub returns-clause-leaves : goal.returns-clause-leaves
returns-clause-leaves g c =
    let short : length c.in_ok-input.input.items ≤ 268435456 = grind (arith, common_steps) in
    IfErr-weaker c.told_of_input.result _ _ (λ status h. leaves_whole status (g.S.Source.left c.args.source.now) _ c.in_ok-input.input.items
    c.in_ok-input.ensures.bytes short c.in_ok-input.ensures.ended) c.told_of_input.ensures.kind
