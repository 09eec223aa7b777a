use Rattle.std.proofs.Common.{ℕ, ◌≤◌, ◌++◌, ◌∷◌, [], List, ap, sym, ◌∙◌, arith}
use Rattle.flit_words.specs.Layouts.{first_row_of}
use Rattle.flit_recover.proofs.MarkedRows.{rows_more}
use Rattle.flit_recover.proofs.recovery.all_rows.Goals as goal

pub loop-row-preserved : goal.loop-row-preserved
loop-row-preserved c =
    let first = first_row_of c.args.layout.now.kind in
    let row = c.loop-row.row in
    let le : first ≤ row = c.loop-row.invariant.0 in
    let pushed = c.push_reserved.ensures in (
      omega arith,
      (let was = c.loop-row.invariant.1 in let more = pushed.len in omega (arith, was, more)),
      (let was = c.loop-row.invariant.2 in let same = pushed.capacity in omega (arith, was, same)),
      pushed.items ∙ ap (λ (rs : List ℕ). rs ++ row ∷ []) c.loop-row.invariant.3 ∙ sym (rows_more first row le),
    )
