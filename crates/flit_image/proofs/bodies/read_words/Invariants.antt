use Rattle.std.proofs.Common.{◌≡◌, ◌+◌, ◌≤◌, ◌++◌, ◌<◌, ◌^◌, length}
use Rattle.std.specs.List.{AllByRecursion}
use Rattle.flit_words.specs.Layouts.{words_of}
use Rattle.flit_words.specs.Texts.{lines_of}
use Rattle.flit_image.specs.declared.faults.ImageError.{ImageError}
use Rattle.flit_image.specs.ImageTexts.{IsBodyFault}
use Rattle.flit_image.specs.Readings.{lines_so_far}
use Rattle.flit_image.proofs.bodies.read_words.Given as goal

abbrev pub invariant-lines : goal.invariant-lines
invariant-lines l = record {
  within : length l.words.items ≤ words_of l.layout;
  few : l.line ≤ 4 + length l.words.items;
  raw : AllByRecursion (λ raw. raw < 2 ^ 64) l.words.items;
  so_far : lines_of l.body ≡ lines_so_far l.layout l.words.items ++ lines_of l.rest;
  faults : (e : ImageError) → IsBodyFault l.layout l.line (length l.words.items) (lines_of l.rest) e → IsBodyFault l.layout 4 0 (lines_of l.body) e;
}

abbrev pub decreases-lines : goal.decreases-lines
decreases-lines l = length l.rest
