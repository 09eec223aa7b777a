use Rattle.std.proofs.Common.{◌≡◌, length}
use Rattle.flit_image.specs.Readings.{lines_so_far}
use Rattle.flit_image.specs.Views.{HaveLines}
use Rattle.flit_image.proofs.viewed_words.fill_fresh.Given as goal

abbrev pub invariant-loop-word : goal.invariant-loop-word
invariant-loop-word l = record {
  filled : length l.words.items ≡ l.word;
  lines : HaveLines l.layout l.words.items l.lines.items;
  same : lines_so_far l.layout l.words.items ≡ lines_so_far l.layout l.fn.words.items;
}
