use Rattle.std.proofs.Common.{ap, ◌∙◌, None}
use Rattle.std.specs.FinMap as map_of
use Rattle.flit_sched.proofs.BookLaws.{not_missing, found_at, book_at}
use Rattle.flit_sched.proofs.books.value_at.Goals as goal

pub returns-in-Err : goal.returns-in-Err
returns-in-Err c = λ now e. absurd (not_missing c.args.keys.now c.args.key c.in-Err.field-0 c.in-Err.ensures.position c.requires.rising c.requires.has)

pub returns-in-Ok : goal.returns-in-Ok
returns-in-Ok c = λ now e.
    let f = found_at c.args.keys.now c.args.key c.in-Ok.at c.in-Ok.ensures.position c.requires.rising in
    book_at now c.args.keys.now c.args.values.now c.in-Ok.at e f.0 None ∙ ap (λ k. map_of.get now k) f.1
