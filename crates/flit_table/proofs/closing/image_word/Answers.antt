use Rattle.std.proofs.Common.{◌+◌, ◌∙◌, sym, true}
use Rattle.std.specs.Mem.Slots.{slots_items}
use Rattle.flit_table.specs.Closing.{taken_word}
use Rattle.flit_table.proofs.CloseLaws.{elem_found}
use Rattle.flit_table.proofs.closing.image_word.Goals as goal

pub returns : goal.returns
returns c =
    let xs = slots_items c.args.closed.now.words in
    let w = c.args.word in
    c.taken_or_kept.ensures
    ∙ (λ i. taken_word true (sym (elem_found xs (w + 1) c.word-now.result c.word-now.ensures) i)
    (sym (elem_found xs (c.args.count + (w + 1)) c.word-shadow.result c.word-shadow.ensures) i))
