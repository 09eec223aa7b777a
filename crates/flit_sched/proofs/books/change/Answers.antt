use Rattle.std.proofs.Common.{◌∙◌, ap}
use Rattle.flit_sched.specs.Books.{value_after}
use Rattle.flit_sched.proofs.BookLaws.{not_missing, found_at, changed}
use Rattle.flit_sched.proofs.books.change.Goals as goal

pub returns-in-Ok : goal.returns-in-Ok
returns-in-Ok c = λ now e.
    let f = found_at c.args.keys.now c.key_of.result c.in-Ok.at c.in-Ok.ensures.position c.requires.rising in
    changed now c.args.call c.args.keys.now c.args.values.now.items c.in-Ok.at c.after_call.result c.index.result.now e f.0 (f.1 ∙ c.key_of.ensures)
    c.requires.rising (c.after_call.ensures ∙ ap (λ o. value_after c.args.call o) c.index.ensures)

pub returns-in-Err : goal.returns-in-Err
returns-in-Err c = λ now e. absurd (not_missing c.args.keys.now c.key_of.result c.in-Err.field-0 c.in-Err.ensures.position c.requires.rising
    (rw c.key_of.ensures c.requires.has))
