use Rattle.std.proofs.Common.{◌++◌, ap, ◌∙◌}
use Rattle.flit_model.specs.Histories.{history_of}
use Rattle.flit_sched.proofs.histories.history_ahead.Goals as goal

pub returns : goal.returns
returns g c =
    c.in_ok-extend_from_slice.ensures.items
    ∙ ap (λ es. es ++ c.deref.result.now) c.in_ok-history.ensures
    ∙ ap (λ es. history_of c.args.settled.now c.args.reads.now ++ es) (c.deref.ensures.value ∙ c.in_ok-taken.ensures
    ∙ c.in_ok-updates_taken.ensures c.args.settled.now)
