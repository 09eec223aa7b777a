use Rattle.std.proofs.Common.{◌∙◌, ap}
use Rattle.flit_model.specs.States.{fresh_state}
use Rattle.flit_speed.proofs.TreeOpens.{tree_may_open}
use Rattle.flit_speed.proofs.tree_searches.alone.Goals as goal

pub open-bench-requires-clause-opens : goal.open-bench-requires-clause-opens
open-bench-requires-clause-opens c =
    tree_may_open c.args.keys c.in_ok-tree.tree c.in_ok-tree._start _ c.in_ok-tree.ensures
    (c.in_ok-machine.ensures ∙ ap fresh_state c.tree_of.ensures.layout)
