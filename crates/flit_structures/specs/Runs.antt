-- What is wanted of the run of a trace on a structure: its report with its events or without them, a summary, or the image that a
-- crash leaves at its end.
use Rattle.std.specs.Prelude.{◌≡◌, ℕ, Bool, true, false, List}
use Rattle.flit_model.specs.CrashImages.{crash_image}
use Rattle.flit_model.specs.Recovery.{IsImageOf, layout_of}
use Rattle.flit_model.specs.declared.found.Image.{Image as An_image}
use Rattle.flit_model.specs.declared.found.Recovered.{Recovered}
use Rattle.flit_image.specs.ImageTexts.{image_text}
use Rattle.flit_report.specs.Content.{Content as Told, text_of}
use Rattle.flit_structure.specs.Meanings.{Meaning}
use Rattle.flit_trace.specs.Contents.{Content}
use Rattle.flit_trace.specs.SeenTraces.{SeenTrace, Shows}
use Rattle.flit_sched.specs.Runs.{Run}
use Rattle.flit_histories.specs.Following.{Given}
use Rattle.flit_step_reports.specs.StepReports.{IsReportOf, IsRunOf, picks_in}
use Rattle.flit_step_runs.specs.Plays.{CanPlay}
use Rattle.flit_structures.specs.declared.runs.Wanted.{Wanted}
use Rattle.flit_structures.specs.declared.runs.Wanted.TheVariants.{Report, Events, Summary, Image}

-- a text is that of the report of the run of a trace
pub record IsReportText {Op : Type 0} (meaning : Meaning Op) (t : Content) (shows summary : Bool) (start : Recovered) (text : List ℕ) : Type 0 where
  pub told : Told
  pub is : IsReportOf meaning t shows start told
  pub summary_is : told.summary ≡ summary
  pub text_is : text ≡ text_of told

-- an image is the one that a crash leaves at the end of the run of a trace: of each word its shadow, or where the trace names the
-- word the value ahead
pub record IsImageOfRun {Op : Type 0} (meaning : Meaning Op) (t : Content) (start : Recovered) (image : An_image) : Type 0 where
  pub given : List Given
  pub final : Run Op
  pub run : IsRunOf meaning t start given final
  pub shape : IsImageOf t.head.layout image
  pub words : image.words.items ≡ crash_image (picks_in t) final.state

-- a text is that of such an image
pub record IsImageText {Op : Type 0} (meaning : Meaning Op) (t : Content) (start : Recovered) (text : List ℕ) : Type 0 where
  pub image : An_image
  pub is : IsImageOfRun meaning t start image
  pub text_is : text ≡ image_text (layout_of image) image.words.items

-- a text is what is wanted of the run of a trace
abbrev pub IsToldOf : {Op : Type 0} → Meaning Op → Content → Wanted → Recovered → List ℕ → Type 0
IsToldOf meaning t Report start text = IsReportText meaning t false false start text
IsToldOf meaning t Events start text = IsReportText meaning t true false start text
IsToldOf meaning t Summary start text = IsReportText meaning t false true start text
IsToldOf meaning t Image start text = IsImageText meaning t start text

-- it is that of each trace that is seen and can be played
abbrev pub IsToldSeen : {Op : Type 0} → Meaning Op → SeenTrace → Wanted → Recovered → List ℕ → Type 0
IsToldSeen meaning trace wanted start text = (t : Content) → Shows trace t → CanPlay meaning start t → IsToldOf meaning t wanted start text
