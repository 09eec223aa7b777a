use Rattle.flit_tree_heap.proofs.Settling.{settles, same}
use Rattle.flit_tree_heap.proofs.Sameness.{blind}
use Rattle.flit_tree_heap.proofs.Recovering.{recovers}
use Rattle.flit_tree_heap.proofs.Rows.{word_open}
use Rattle.flit_tree_heap.proofs.laws.kept_heaps.Goals as goal

pub returns : goal.returns
returns c = record { settles = settles; blind = blind; same = same; recovers = recovers; reached = λ l free h K row w i o. word_open l free h K row i w o }
