use Rattle.flit_tree_heap.proofs.Answering.{answered}
use Rattle.flit_tree_heap.proofs.Leading.{two_inner, led_top, led_next}
use Rattle.flit_tree_heap.proofs.Searching.{linked_on, inner_on, loaded_on, trail_on, trail_more, loaded_flag, loaded_frozen}
use Rattle.flit_tree_heap.proofs.laws.searches.Goals as goal

pub returns : goal.returns
returns c = record {
  inner = two_inner;
  top = led_top;
  next = led_next;
  rows = λ l free who h k K N L row i. (linked_on l free who h k K N L row i, inner_on l free who h k K N L row i);
  loaded = loaded_on;
  trails = trail_on;
  grows = trail_more;
  flags = λ l free h K needs P edge q x. loaded_flag l free h K needs P edge q x;
  answers = answered;
  frozen = λ l free h K needs P edge q x. loaded_frozen l free h K needs P edge q x;
}
