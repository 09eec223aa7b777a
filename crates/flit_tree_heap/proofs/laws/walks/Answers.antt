use Rattle.flit_tree_heap.proofs.Walking.{tree_linked, led_walks, top_walks, walks-walk}
use Rattle.flit_tree_heap.proofs.Winning.{freeze_fewer, swing_fewer}
use Rattle.flit_tree_heap.proofs.laws.walks.Goals as goal

pub returns : goal.returns
returns c = record {
  linked = tree_linked;
  led = led_walks;
  new = top_walks;
  counted = walks-walk;
  freeze = λ l free h edge to K F. freeze_fewer l free h edge to 0 K F;
  swing = λ l free h needs key row edge to end kept rows K S. swing_fewer l free h needs key row edge to end kept rows 0 K S;
}
