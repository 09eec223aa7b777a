use Rattle.flit_cli.proofs.DispatchLaws.{usage_make, usage_step, unread_step, usage_run}
use Rattle.flit_cli.proofs.dispatch.run_command.Goals as goal

pub returns-in-Make-clause-usage : goal.returns-in-Make-clause-usage
returns-in-Make-clause-usage g c = usage_make _ _ _ _ c.in-Make.is c.requires.can c.requires.named c.flit_make.ensures.usage

pub returns-in-Run-clause-usage : goal.returns-in-Run-clause-usage
returns-in-Run-clause-usage g c = usage_run _ _ _ _ c.in-Run.is c.requires.named c.flit_run.ensures.usage

pub returns-in-Step-clause-usage : goal.returns-in-Step-clause-usage
returns-in-Step-clause-usage g c =
    usage_step _ _ _ _ c.in-Step.is c.requires.named c.flit_step.ensures.usage c.flit_step.ensures.detect

pub returns-in-Step-clause-unread : goal.returns-in-Step-clause-unread
returns-in-Step-clause-unread g c =
    unread_step _ _ _ _ _ c.in-Step.is c.requires.named c.flit_step.ensures.detect c.flit_step.ensures.unread
