use Rattle.std.proofs.Common.{◌≡◌, ℕ, ◌<◌, slice_index, false}
use Rattle.flit_words.specs.Words.{is_tagged}
use Rattle.flit_plain.proofs.images.are_untagged.Given as goal

abbrev pub invariant-loop-word : goal.invariant-loop-word
invariant-loop-word l = (w : ℕ) → w < l.word-index → is_tagged (slice_index l.words w) ≡ false
