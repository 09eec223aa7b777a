use Rattle.std.proofs.Common.{None, refl}
use Rattle.flit_statuses.specs.declared.status.Status.TheVariants.{Usage}
use Rattle.flit_cli.proofs.DispatchLaws.{of_found, of_none, usage_found, told_found, told_none}
use Rattle.flit_cli.proofs.dispatch.flit.Goals as goal

pub returns-in-Some-clause-usage : goal.returns-in-Some-clause-usage
returns-in-Some-clause-usage g c = usage_found _ _ _ c.in-Some.ensures.some.0 c.in-Some.ensures.some.1 c.run_command.ensures.usage

pub returns-in-Some-clause-blames : goal.returns-in-Some-clause-blames
returns-in-Some-clause-blames g c = of_found _ _ _ c.in-Some.ensures.some.0 c.in-Some.ensures.some.1 c.run_command.ensures.blames

pub returns-in-Some-clause-leaves : goal.returns-in-Some-clause-leaves
returns-in-Some-clause-leaves g c = of_found _ _ _ c.in-Some.ensures.some.0 c.in-Some.ensures.some.1 c.run_command.ensures.leaves

pub returns-in-Some-clause-wrote : goal.returns-in-Some-clause-wrote
returns-in-Some-clause-wrote g c = of_found _ _ _ c.in-Some.ensures.some.0 c.in-Some.ensures.some.1 c.run_command.ensures.wrote

pub returns-in-Some-clause-unread : goal.returns-in-Some-clause-unread
returns-in-Some-clause-unread g c = λ none. c.run_command.ensures.unread (λ reads. none _ c.in-Some.ensures.some.0 reads c.in-Some.ensures.some.1)

pub returns-in-Some-clause-told : goal.returns-in-Some-clause-told
returns-in-Some-clause-told g c = told_found _ _ _ c.in-Some.ensures.some.0 c.in-Some.ensures.some.1 c.run_command.ensures.tells

pub returns-in-None-clause-told : goal.returns-in-None-clause-told
returns-in-None-clause-told g c = told_none (record { status = Usage; told = None }) _ c.in-None.ensures.none refl
