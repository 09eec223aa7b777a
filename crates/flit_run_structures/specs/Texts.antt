-- What `run` tells of the trace that some bytes are: the text, and what the close of the running structure has told beside it.
use Rattle.std.specs.Prelude.{◌≡◌, ℕ, Bool, true, false, List}
use Rattle.flit_model.specs.Recovery.{layout_of}
use Rattle.flit_model.specs.declared.found.Recovered.{Recovered}
use Rattle.flit_image.specs.ImageTexts.{image_text}
use Rattle.flit_report.specs.Content.{Content as Report_content, text_of}
use Rattle.flit_structure.specs.Meanings.{Meaning}
use Rattle.flit_table.specs.declared.told.Known.{Known}
use Rattle.flit_trace.specs.Contents.{Content}
use Rattle.flit_trace.specs.Grammar.{IsTrace}
use Rattle.flit_trace.specs.SeenTraces.{SeenTrace, Shows}
use Rattle.flit_run_reports.specs.RunReports.{IsRunOnThreads, IsRunReportOf, IsRunText, IsRunImageText}
use Rattle.flit_run_runs.specs.Plays.{CanRun}
use Rattle.flit_structures.specs.Structures.{IsPlayable}
use Rattle.flit_run_structures.specs.declared.runs.Wanted.{Wanted}
use Rattle.flit_run_structures.specs.declared.runs.Wanted.TheVariants.{Report, Summary, Image}

-- the text that is wanted of a run of a trace on threads, of which this is told: that of its report, of the report's summary,
-- or of the image
abbrev pub IsWantedText : Wanted → Content → Known → List ℕ → Type 0
IsWantedText Report t k text = IsRunText t false k text
IsWantedText Summary t k text = IsRunText t true k text
IsWantedText Image t k text = IsRunImageText t k text

-- the bytes are a trace that can be run; its workers ran on threads, this is told of the run, and this is the text that is wanted
pub record IsTextOfRun (bytes : List ℕ) (wanted : Wanted) (k : Known) (text : List ℕ) : Type 0 where
  pub content : Content
  pub trace : IsTrace bytes content
  pub playable : IsPlayable content.head
  pub is : IsWantedText wanted content k text

-- ---- of a trace that is seen

-- this is the text of the report, or of its summary, of a run from what recovery found
pub record IsReportText (t : Content) (start : Recovered) (summary : Bool) (k : Known) (text : List ℕ) : Type 0 where
  pub report : Report_content
  pub is : IsRunReportOf t start k report
  pub summary_is : report.summary ≡ summary
  pub text_is : text ≡ text_of report

abbrev pub IsReportSeen : {Op : Type 0} → Meaning Op → SeenTrace → Recovered → Bool → Known → List ℕ → Type 0
IsReportSeen meaning trace start summary k text = (t : Content) → Shows trace t → CanRun meaning start t → IsReportText t start summary k text

-- this is the text of the image of such a run
pub record IsImageText (t : Content) (start : Recovered) (k : Known) (text : List ℕ) : Type 0 where
  pub run : IsRunOnThreads t start k
  pub text_is : text ≡ image_text (layout_of k.image) k.image.words.items

abbrev pub IsImageSeen : {Op : Type 0} → Meaning Op → SeenTrace → Recovered → Known → List ℕ → Type 0
IsImageSeen meaning trace start k text = (t : Content) → Shows trace t → CanRun meaning start t → IsImageText t start k text

-- whatever trace is seen, this is the text that is wanted of its run
abbrev pub IsWantedSeen : Wanted → SeenTrace → Known → List ℕ → Type 0
IsWantedSeen wanted trace k text = (bytes : List ℕ) (t : Content) → IsTrace bytes t → Shows trace t → IsWantedText wanted t k text
