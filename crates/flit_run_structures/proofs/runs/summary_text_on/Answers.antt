use Rattle.std.proofs.Common.{true}
use Rattle.std.proofs.lemmas.Result.{IfOk-weaker}
use Rattle.flit_table.specs.Closing.{told_by}
use Rattle.flit_table.specs.Steps.{meaning_of}
use Rattle.flit_run_structures.specs.Texts.{IsReportSeen}
use Rattle.flit_run_structures.proofs.runs.summary_text_on.Goals as goal

pub returns : goal.returns
returns g c =
    let home = c.args.running in
    IfOk-weaker c.summary_of_threads.result _
    (λ r. IsReportSeen (meaning_of g.S.Structure.meaning home) c.args.trace.now home.origin.start.value true (told_by r.1) r.0.items)
    (λ r is t shows can. let s = is t shows can in record { report = s.report; is = s.is; summary_is = s.summary_is; text_is = s.text_is })
    c.summary_of_threads.ensures
