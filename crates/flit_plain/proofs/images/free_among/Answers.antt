use Rattle.std.proofs.Common.{◌≤◌, ap, ◌∙◌, refl, sym, arith}
use Rattle.flit_words.specs.Layouts.{first_row_of}
use Rattle.flit_plain.proofs.FreeRows.{absent_kept, present_left_out}
use Rattle.flit_plain.proofs.images.free_among.Goals as goal
use Rattle.flit_plain.proofs.images.free_among.Goals.{then-not-contains+in_ok-push, else-not-contains}

pub loop-row-preserved : goal.loop-row-preserved
loop-row-preserved c =
    let from : first_row_of c.args.layout.now.kind ≤ c.loop-row.row-counter = omega arith in
    elim c.if-not-contains.branch [
      | then-not-contains+in_ok-push w ↦ absent_kept c.args.reached.now c.loop-row.free.items _ (first_row_of c.args.layout.now.kind) c.loop-row.row-counter _
          from refl c.loop-row.invariant (sym c.contains.ensures.value ∙ w.if-not-contains.true) (ap (λ v. v.items) w.free-is ∙ w.in_ok-push.ensures.items)
      | else-not-contains w ↦ present_left_out c.args.reached.now c.loop-row.free.items _ (first_row_of c.args.layout.now.kind) c.loop-row.row-counter _ from
          refl c.loop-row.invariant (sym c.contains.ensures.value ∙ w.if-not-contains.false) (ap (λ v. v.items) w.free-is)
    ]
