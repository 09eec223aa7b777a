use Rattle.std.proofs.lemmas.Result.{IfOk-weaker}
use Rattle.flit_report.specs.Report.{content_of}
use Rattle.flit_structures.proofs.runs.report_text_of_run.Goals as goal

pub returns : goal.returns
returns g c =
    IfOk-weaker c.report_text.result _ _
    (λ text is t shows can. record {
      told = content_of c.in_ok-report.report;
      is = c.in_ok-report.ensures.report t shows can;
      summary_is = c.in_ok-report.ensures.summary;
      text_is = is;
    }) c.report_text.ensures
