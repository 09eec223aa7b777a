-- What a report of the run of a trace on the structure that it names says.
use Rattle.std.specs.Prelude.{ℕ, Bool, List}
use Rattle.flit_model.specs.declared.found.Recovered.{Recovered}
use Rattle.flit_report.specs.Content.{Content as Told}
use Rattle.flit_trace.specs.Contents.{Content}
use Rattle.flit_trace.specs.Grammar.{IsTrace}
use Rattle.flit_turns.specs.Lines.{shown_of}
use Rattle.flit_step_reports.specs.StepReports.{StartsAt, IsReportOf}
use Rattle.flit_step_sentences.specs.Sentences.{SaysHeadline}
use Rattle.flit_structures.specs.Structures.{structure_in, IsPlayable}

-- A report of the run of a trace on its own structure, from what recovery finds where the trace starts, says the headline over
-- the events of that run.
abbrev pub TracesSayHeadline : Type 0
TracesSayHeadline =
    (bytes : List ℕ) (t : Content) (start : Recovered) (shows : Bool) (told : Told) → IsTrace bytes t → IsPlayable t.head → StartsAt t start →
    (is : IsReportOf (structure_in t.head start.free.items).meaning t shows start told) → SaysHeadline t shows start (shown_of is.given) told
