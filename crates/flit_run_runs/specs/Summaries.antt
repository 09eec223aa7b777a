-- What a summary of `run` counts of the outcomes of all calls, and the text of such a summary.
use Rattle.std.specs.Prelude.{◌≡◌, ℕ, true, List, length, count_by}
use Rattle.flit_model.specs.declared.calls.Outcome.{Outcome}
use Rattle.flit_model.specs.declared.found.Recovered.{Recovered}
use Rattle.flit_report.specs.Content.{Content as Report, is_done, is_stopped, is_full, is_worn, text_of}
use Rattle.flit_step_runs.specs.declared.counting.Counts.{Counts}
use Rattle.flit_table.specs.declared.told.Known.{Known}
use Rattle.flit_trace.specs.Contents.{Content}
use Rattle.flit_run_reports.specs.RunReports.{IsRunReportOf}

-- there are so many outcomes, and so many of each kind
pub record CountsOutcomes (counts : Counts) (outcomes : List Outcome) : Type 0 where
  pub calls : counts.calls ≡ length outcomes
  pub done : counts.done ≡ count_by (λ o. is_done o) outcomes
  pub stopped : counts.stopped ≡ count_by (λ o. is_stopped o) outcomes
  pub full : counts.full ≡ count_by (λ o. is_full o) outcomes
  pub worn : counts.worn ≡ count_by (λ o. is_worn o) outcomes

-- a text is the summary of the report of a run of a trace on threads, of which this is told
pub record IsRunSummaryOf (t : Content) (start : Recovered) (k : Known) (text : List ℕ) : Type 0 where
  pub report : Report
  pub is : IsRunReportOf t start k report
  pub summary_is : report.summary ≡ true
  pub text_is : text ≡ text_of report
