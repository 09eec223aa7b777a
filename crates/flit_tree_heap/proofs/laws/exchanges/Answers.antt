use Rattle.flit_tree_heap.proofs.Winning.{flag_won, freeze_won, swing_won}
use Rattle.flit_tree_heap.proofs.Linking.{link_won}
use Rattle.flit_tree_heap.proofs.laws.exchanges.Goals as goal

pub returns : goal.returns
returns c = record {
  flag = λ l free h needs key row edge to name number. flag_won l free h needs key row edge to name number;
  freeze = λ l free h edge to name. freeze_won l free h edge to name;
  link = λ l free h needs key value row edge to inner leaf rows name number. link_won l free h needs key value row edge to inner leaf rows name number;
  swing = λ l free h needs key row edge to end kept rows name. swing_won l free h needs key row edge to end kept rows name;
}
