use Rattle.std.proofs.Common.{◌∙◌, ap}
use Rattle.flit_model.specs.States.{fresh_state}
use Rattle.flit_speed.proofs.ListOpens.{list_may_open}
use Rattle.flit_speed.proofs.searches.alone.Goals as goal

pub open-bench-requires-clause-opens : goal.open-bench-requires-clause-opens
open-bench-requires-clause-opens c =
    list_may_open c.args.rows c.in_ok-list.list c.in_ok-list._start _ c.in_ok-list.ensures
    (c.in_ok-machine.ensures ∙ ap fresh_state c.list_of.ensures.layout)
