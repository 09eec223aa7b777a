-- What is so of the reports of traces.
use Rattle.std.specs.Prelude.{◌≡◌, ◌+◌, ◌++◌, ◌∷◌, Bool, List, length}
use Rattle.std.specs.List.{AllByRecursion}
use Rattle.flit_model.specs.declared.calls.Work.{Work}
use Rattle.flit_model.specs.declared.found.Recovered.{Recovered}
use Rattle.flit_structure.specs.Meanings.{Meaning}
use Rattle.flit_trace.specs.Contents.{Content}
use Rattle.flit_trace.specs.Rights.{IsRightLine}
use Rattle.flit_report.specs.declared.content.Line.{Line}
use Rattle.flit_report.specs.Content.{Content as Told}
use Rattle.flit_histories.specs.Reached.{IsStart}
use Rattle.flit_turns.specs.Lines.{shown_of}
use Rattle.flit_step_reports.specs.StepReports.{AreWorksOf, IsReportOf}
use Rattle.flit_step_sentences.specs.Lines.{lines_of, IsLineOf}
use Rattle.flit_step_sentences.specs.Sentences.{SaysHeadline}

-- a structure is of a trace's layout, and opens at what recovery found, with the trace's works; and each call and evict line
-- names one of the trace's workers
pub record IsOpenFor {Op : Type 0} (meaning : Meaning Op) (t : Content) (start : Recovered) : Type 0 where
  pub layout : meaning.layout ≡ t.head.layout
  pub starts : (works : List Work) → AreWorksOf t works → IsStart meaning start works
  pub lines : AllByRecursion (IsRightLine t.head.layout) t.items

-- A report of the run of a trace says the headline over the events of that run.
abbrev pub ReportsSayHeadline : {Op : Type 0} → Meaning Op → Type 0
ReportsSayHeadline meaning = (t : Content) (shows : Bool) (start : Recovered) (told : Told) → IsOpenFor meaning t start →
    (is : IsReportOf meaning t shows start told) → SaysHeadline t shows start (shown_of is.given) told

-- Each line of a report is that of a call, whose number is one more than the lines of its worker before it.
abbrev pub LinesAreNumbered : Type 0
LinesAreNumbered = (front back : List Line) (l : Line) →
    IsLineOf (front ++ l ∷ back) l.worker (length (lines_of l.worker front) + 1) l.call l.outcome
