use Rattle.std.proofs.lemmas.Result.{IfOk-weaker}
use Rattle.flit_table.specs.Closing.{told_by}
use Rattle.flit_run_structures.proofs.SourceLaws.{text_told}
use Rattle.flit_run_structures.proofs.texts.text_of_run.Goals as goal

pub returns-clause-text : goal.returns-clause-text
returns-clause-text g c =
    let o = c.in_ok-outset.outset in
    IfOk-weaker c.text_from_outset.result _ _
    (λ r. text_told o c.args.bytes.items c.args.wanted (told_by r.1) r.0.items c.in_ok-outset.ensures.outset c.in_ok-outset.ensures.source)
    c.text_from_outset.ensures.text
