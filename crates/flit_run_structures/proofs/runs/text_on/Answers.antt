use Rattle.std.proofs.lemmas.Result.{IfOk-weaker}
use Rattle.flit_table.specs.Closing.{told_by}
use Rattle.flit_table.specs.Steps.{meaning_of}
use Rattle.flit_run_structures.proofs.WantedTexts.{report_wanted, summary_wanted, image_wanted}
use Rattle.flit_run_structures.proofs.runs.text_on.Goals as goal

pub returns-in-Report : goal.returns-in-Report
returns-in-Report g c =
    let home = c.args.ready.running in
    IfOk-weaker c.report_text_on.result _ _
    (λ r. report_wanted (meaning_of g.S.Structure.meaning home) c.args.ready.read.trace home.origin.start.value c.requires.runs c.requires.starts
    (told_by r.1) r.0.items c.args.wanted c.in-Report.is) c.report_text_on.ensures

pub returns-in-Summary : goal.returns-in-Summary
returns-in-Summary g c =
    let home = c.args.ready.running in
    IfOk-weaker c.summary_text_on.result _ _
    (λ r. summary_wanted (meaning_of g.S.Structure.meaning home) c.args.ready.read.trace home.origin.start.value c.requires.runs c.requires.starts
    (told_by r.1) r.0.items c.args.wanted c.in-Summary.is) c.summary_text_on.ensures

pub returns : goal.returns
returns g c =
    let home = c.args.ready.running in
    IfOk-weaker c.image_text_on.result _ _
    (λ r. image_wanted (meaning_of g.S.Structure.meaning home) c.args.ready.read.trace home.origin.start.value c.requires.runs c.requires.starts
    (told_by r.1) r.0.items c.args.wanted c.in-Image.is) c.image_text_on.ensures
