use Rattle.std.proofs.Common.{◌≡◌, ℕ, ◌<◌, false, slice_index}
use Rattle.flit_words.specs.Words.{is_tagged}
use Rattle.flit_recover.proofs.tree_walk.tests.has_no_tag.Given as goal

abbrev pub invariant-loop-word : goal.invariant-loop-word
invariant-loop-word l = (w : ℕ) → w < l.word-index → is_tagged (slice_index l.words w) ≡ false
