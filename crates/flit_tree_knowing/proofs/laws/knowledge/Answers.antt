use Rattle.flit_tree_knowing.proofs.Lasting.{lasts}
use Rattle.flit_tree_knowing.proofs.Loading.{edge_loaded, top_plain}
use Rattle.flit_tree_knowing.proofs.Positions.{seen_had}
use Rattle.flit_tree_knowing.proofs.laws.knowledge.Goals as goal

pub returns : goal.returns
returns c = record { lasts = lasts; loads = edge_loaded; top = top_plain; had = seen_had }
