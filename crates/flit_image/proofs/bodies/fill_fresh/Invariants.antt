use Rattle.std.proofs.Common.{◌≡◌, ◌<◌, ◌^◌, length}
use Rattle.std.specs.List.{AllByRecursion}
use Rattle.flit_image.specs.Readings.{lines_so_far}
use Rattle.flit_image.proofs.bodies.fill_fresh.Given as goal

abbrev pub invariant-loop-word : goal.invariant-loop-word
invariant-loop-word l = record {
  filled : length l.words.items ≡ l.word;
  raw : AllByRecursion (λ raw. raw < 2 ^ 64) l.words.items;
  same : lines_so_far l.layout l.words.items ≡ lines_so_far l.layout l.fn.words.items;
}
