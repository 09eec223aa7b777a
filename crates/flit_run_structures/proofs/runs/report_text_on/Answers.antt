use Rattle.flit_report.specs.Report.{content_of}
use Rattle.flit_run_structures.proofs.runs.report_text_on.Goals as goal

pub returns : goal.returns
returns g c = λ t shows can. record {
  report = content_of c.in_ok-ran.ran.0;
  is = c.in_ok-ran.ensures.report t shows can;
  summary_is = c.in_ok-ran.ensures.summary;
  text_is = c.in_ok-text.ensures;
}
