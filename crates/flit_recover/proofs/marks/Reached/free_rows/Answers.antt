-- A row whose mark isn't set is one more free row.
use Rattle.std.proofs.Common.{ℕ, ◌≤◌, ◌++◌, ◌∷◌, [], List, ap, sym, ◌∙◌, arith}
use Rattle.flit_words.specs.Layouts.{first_row_of, last_row_of}
use Rattle.flit_recover.proofs.MarkedRows.{left_with, left_without, mark_says}
use Rattle.flit_recover.proofs.marks.Reached.free_rows.Goals as goal
use Rattle.flit_recover.proofs.marks.Reached.free_rows.Goals.{then-not-index+in_ok-push, else-not-index}

pub loop-row-preserved : goal.loop-row-preserved
loop-row-preserved c =
    let rows = c.args.self.now.rows.items in
    let first = first_row_of c.args.layout.now.kind in
    let row = c.loop-row.row in
    let le : first ≤ row = c.loop-row.invariant.0 in
    let says = mark_says (last_row_of c.args.layout.now) c.args.self.now.marks.items rows row c.index.result.now c.requires.marks (omega arith)
    c.index.ensures in
    elim c.if-not-index.branch [
      | then-not-index+in_ok-push w ↦ rw w.free-is (
        omega arith,
        w.in_ok-push.ensures.items ∙ ap (λ (rs : List ℕ). rs ++ row ∷ []) c.loop-row.invariant.1
            ∙ sym (left_with rows first row le (says ∙ w.if-not-index.true)),
      )
      | else-not-index w ↦ rw w.free-is (omega arith, c.loop-row.invariant.1 ∙ sym (left_without rows first row le (says ∙ w.if-not-index.false)))
    ]
