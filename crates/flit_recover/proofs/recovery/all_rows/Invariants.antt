use Rattle.std.proofs.Common.{◌≡◌, ◌+◌, ◌≤◌, ◌-◌}
use Rattle.std.specs.List.{range_with_len}
use Rattle.std.specs.Vec.{vec_len, vec_capacity}
use Rattle.flit_words.specs.Layouts.{first_row_of}
use Rattle.flit_recover.proofs.recovery.all_rows.Given as goal

abbrev pub invariant-loop-row : goal.invariant-loop-row
invariant-loop-row l =
    (first_row_of l.layout.kind ≤ l.row)
    × (vec_len l.rows + first_row_of l.layout.kind ≡ l.row)
    × (l.layout.rows ≤ vec_capacity l.rows)
    × (l.rows.items ≡ range_with_len (first_row_of l.layout.kind) (l.row - first_row_of l.layout.kind))
