-- The code of the tree means what the crew makes of its machines.
use Rattle.std.proofs.Common.{refl}
use Rattle.flit_tree_meaning.specs.Laws.{TreeMeans}
use Rattle.flit_tree_meaning.proofs.Machines.{asks_at, has_hand, writes_at, leaves_at, exchanges_at}
use Rattle.flit_tree_meaning.proofs.Answers.{takes_at}

pub tree_means : TreeMeans
tree_means l p free = record {
  begins = λ hand call. refl;
  asks = λ op. asks_at p op.at;
  takes = λ op told. takes_at l p free op.call op.reply op.path op.at told;
  exchanges = λ op. exchanges_at p op.at;
  hand = λ op. has_hand op.at;
  writes = λ op. writes_at op.at;
  leaves = λ op told. leaves_at p free op.at told;
}
