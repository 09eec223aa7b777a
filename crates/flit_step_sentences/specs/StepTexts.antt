-- What the text is that the command `step` is to write for a trace.
use Rattle.std.specs.Prelude.{◌≡◌, ℕ, Bool, List}
use Rattle.flit_model.specs.declared.found.Recovered.{Recovered}
use Rattle.flit_trace.specs.Contents.{Content}
use Rattle.flit_report.specs.Content.{Content as Told, text_of}
use Rattle.flit_turns.specs.Lines.{shown_of}
use Rattle.flit_step_reports.specs.StepReports.{Choice, StartsAt, IsReportOf}
use Rattle.flit_step_sentences.specs.Sentences.{SaysHeadline}

-- a text is that of the report of the run of a trace's own structure; and this report says the headline, over the events of
-- that run
pub record IsStepText (structure_in : Choice) (t : Content) (shows summary : Bool) (text : List ℕ) : Type 0 where
  pub start : Recovered
  pub starts : StartsAt t start
  pub told : Told
  pub is : IsReportOf (structure_in t.head start.free.items).meaning t shows start told
  pub says : SaysHeadline t shows start (shown_of is.given) told
  pub summary_is : told.summary ≡ summary
  pub text_is : text ≡ text_of told
