use Rattle.std.proofs.Common.{◌≡◌, ◌-◌, filter}
use Rattle.std.specs.List.{range_with_len}
use Rattle.flit_words.specs.Layouts.{first_row_of}
use Rattle.flit_plain.specs.Finding.{is_absent}
use Rattle.flit_plain.proofs.images.free_among.Given as goal

abbrev pub invariant-loop-row : goal.invariant-loop-row
invariant-loop-row l = l.free.items ≡ filter (is_absent l.reached) (range_with_len (first_row_of l.layout.kind) (l.row-counter - first_row_of l.layout.kind))
