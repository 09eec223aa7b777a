use Rattle.std.proofs.lemmas.Result.{IfOk-weaker}
use Rattle.flit_structures.proofs.WantedTexts.{on_wanted}
use Rattle.flit_structures.specs.Runs.{IsToldSeen}
use Rattle.flit_structures.specs.declared.runs.Wanted.TheVariants.{Report, Events, Summary, Image}
use Rattle.flit_structures.proofs.runs.text_of_run.Goals as goal

pub returns-in-Report : goal.returns-in-Report
returns-in-Report g c =
    on_wanted (g.S.Structure.meaning c.args.structure) c.args.trace c.args.start c.args.wanted Report (λ v. v.items) c.report_text_of_run.result
    c.in-Report.is c.report_text_of_run.ensures

pub returns-in-Events : goal.returns-in-Events
returns-in-Events g c =
    on_wanted (g.S.Structure.meaning c.args.structure) c.args.trace c.args.start c.args.wanted Events (λ v. v.items)
    c.report_text_of_run-in-Events.result c.in-Events.is c.report_text_of_run-in-Events.ensures

pub returns-in-Summary : goal.returns-in-Summary
returns-in-Summary g c =
    let meaning = g.S.Structure.meaning c.args.structure in
    on_wanted meaning c.args.trace c.args.start c.args.wanted Summary (λ v. v.items) c.summary_of_run.result c.in-Summary.is
    (IfOk-weaker c.summary_of_run.result _ (λ text. IsToldSeen meaning c.args.trace Summary c.args.start text.items)
    (λ text is t shows can. let s = is t shows can in record { told = s.told; is = s.is; summary_is = s.summary_is; text_is = s.text_is })
    c.summary_of_run.ensures)

pub returns-in_ok-image-in-Image : goal.returns-in_ok-image-in-Image
returns-in_ok-image-in-Image g c =
    let meaning = g.S.Structure.meaning c.args.structure in
    on_wanted meaning c.args.trace c.args.start c.args.wanted Image (λ v. v.items) c.write_image.result c.in-Image.is
    (IfOk-weaker c.write_image.result _ (λ text. IsToldSeen meaning c.args.trace Image c.args.start text.items)
    (λ text is t shows can. record { image = c.in_ok-image-in-Image.image; is = c.in_ok-image-in-Image.ensures.image t shows can; text_is = is }) c.write_image.ensures)
