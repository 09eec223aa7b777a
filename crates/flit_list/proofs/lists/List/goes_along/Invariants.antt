use Rattle.std.proofs.Common.{◌≡◌, ◌≤◌, ◌-◌}
use Rattle.flit_list_steps.specs.Steps.{row_of}
use Rattle.flit_list.proofs.AlongRows.{IsAlong}
use Rattle.flit_list.proofs.lists.List.goes_along.Given as goal

abbrev pub invariant-loop-left : goal.invariant-loop-left
invariant-loop-left g l = record {
  most : l.left ≤ l.most;
  row : l.row ≡ row_of l.pred.raw;
  along : IsAlong (g.L.Loader.stands l.loader) l.fn.seat l.fn.op l.seat l.op l.back l.pred l.word (l.most - l.left);
}

abbrev pub decreases-loop-left : goal.decreases-loop-left
decreases-loop-left g l = l.left
