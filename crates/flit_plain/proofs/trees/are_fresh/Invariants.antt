use Rattle.std.proofs.Common.{◌≡◌, ℕ, ◌<◌, ◌≤◌}
use Rattle.flit_words.specs.Layouts.{initial_of}
use Rattle.flit_model.specs.Lists.{value_in}
use Rattle.flit_plain.proofs.trees.are_fresh.Given as goal

abbrev pub invariant-loop-word : goal.invariant-loop-word
invariant-loop-word l = (w : ℕ) → l.from ≤ w → w < l.word → value_in l.words w ≡ initial_of l.layout.kind w
