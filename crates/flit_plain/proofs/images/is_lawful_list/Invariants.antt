use Rattle.std.proofs.Common.{ℕ, ◌<◌, List}
use Rattle.flit_model.specs.Lists.{IsLawfulChain}
use Rattle.flit_plain.proofs.images.is_lawful_list.Given as goal

abbrev pub invariant-loop-head : goal.invariant-loop-head
invariant-loop-head l = (h : ℕ) → h < l.head → (rows : List ℕ) × IsLawfulChain l.layout l.words h rows
