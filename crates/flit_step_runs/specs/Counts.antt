-- What a summary counts of the lines of a report, and the text of a run's summary.
use Rattle.std.specs.Prelude.{◌≡◌, ℕ, true, false, List, length, count_by}
use Rattle.flit_model.specs.declared.found.Recovered.{Recovered}
use Rattle.flit_report.specs.Content.{Content as Told, is_done, is_stopped, is_full, is_worn, text_of}
use Rattle.flit_report.specs.declared.content.Line.{Line}
use Rattle.flit_structure.specs.Meanings.{Meaning}
use Rattle.flit_trace.specs.Contents.{Content}
use Rattle.flit_step_reports.specs.StepReports.{IsReportOf}
use Rattle.flit_step_runs.specs.declared.counting.Counts.{Counts}

-- so many lines stand in a list, and so many of them have each kind of outcome
pub record AreCountsOf (counts : Counts) (lines : List Line) : Type 0 where
  pub calls : counts.calls ≡ length lines
  pub done : counts.done ≡ count_by (λ l. is_done l.outcome) lines
  pub stopped : counts.stopped ≡ count_by (λ l. is_stopped l.outcome) lines
  pub full : counts.full ≡ count_by (λ l. is_full l.outcome) lines
  pub worn : counts.worn ≡ count_by (λ l. is_worn l.outcome) lines

-- a text is the summary of the report of the run of a trace
pub record IsSummaryOf {Op : Type 0} (meaning : Meaning Op) (t : Content) (start : Recovered) (text : List ℕ) : Type 0 where
  pub told : Told
  pub is : IsReportOf meaning t false start told
  pub summary_is : told.summary ≡ true
  pub text_is : text ≡ text_of told
