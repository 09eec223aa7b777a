use Rattle.std.proofs.Common.{◌≡◌, ◌≤◌, ◌-◌, not, filter}
use Rattle.std.specs.List.{range_with_len}
use Rattle.flit_words.specs.Layouts.{first_row_of}
use Rattle.flit_recover.specs.ListWalks.{stands_in}
use Rattle.flit_recover.proofs.marks.Reached.free_rows.Given as goal

abbrev pub invariant-loop-row : goal.invariant-loop-row
invariant-loop-row l =
    (first_row_of l.layout.kind ≤ l.row)
    × (l.free.items ≡ filter (λ r. not (stands_in l.self.rows.items r)) (range_with_len (first_row_of l.layout.kind) (l.row - first_row_of l.layout.kind)))
