-- The image of a run on which a trace was played; and what is told of a run is the text that is wanted of its trace.
use Rattle.std.proofs.Common.{◌≡◌, ◌∙◌, sym, ap, subst, ℕ, Bool, true, false, List, Result, IfOk}
use Rattle.flit_words.specs.declared.layouts.Layout.{Layout}
use Rattle.flit_words.specs.declared.memory.NoMemory.{NoMemory}
use Rattle.flit_model.specs.CrashImages.{crash_image}
use Rattle.flit_model.specs.Recovery.{SameShape, IsImageOf}
use Rattle.flit_model.specs.declared.calls.Ahead.{Ahead}
use Rattle.flit_model.specs.declared.found.Image.{Image as An_image}
use Rattle.flit_model.specs.declared.found.Recovered.{Recovered}
use Rattle.flit_structure.specs.Meanings.{Meaning}
use Rattle.flit_trace.specs.Ahead.{Names}
use Rattle.flit_trace.specs.Contents.{Content}
use Rattle.flit_trace.specs.SeenTraces.{SeenTrace, Shows}
use Rattle.flit_sched.specs.Runs.{Run}
use Rattle.flit_sched.specs.Views.{picks_of}
use Rattle.flit_step_reports.specs.StepLaws.{PlansAreRuns}
use Rattle.flit_step_reports.specs.StepReports.{StartsAt, IsReportOf}
use Rattle.flit_step_sentences.specs.Sentences.{SaysHeadline}
use Rattle.flit_step_sentences.specs.StepTexts.{IsStepText}
use Rattle.flit_step_runs.specs.Plays.{CanPlay, IsPlayed}
use Rattle.flit_step_runs.proofs.TellingLaws.{picks_seen}
use Rattle.flit_report.specs.Content.{Content as Told}
use Rattle.flit_report.specs.declared.content.Shown.{Shown}
use Rattle.flit_turns.specs.Lines.{shown_of}
use Rattle.flit_structures.specs.Runs.{IsReportText, IsToldOf, IsToldSeen, IsImageOfRun}
use Rattle.flit_structures.specs.Structures.{structure_in}
use Rattle.flit_structures.specs.Texts.{IsWantedText}
use Rattle.flit_structures.specs.declared.runs.Wanted.{Wanted}
use Rattle.flit_structures.specs.declared.runs.Wanted.TheVariants.{Report, Events, Summary, Image}

-- an image of the one layout is one of the other
shape_through : (image : An_image) (l m : Layout) → SameShape l m → IsImageOf m image → IsImageOf l image
shape_through image l m same shape = record {
  kind = shape.kind ∙ sym same.kind;
  buckets = shape.buckets ∙ sym same.buckets;
  rows = shape.rows ∙ sym same.rows;
  values = shape.values ∙ sym same.values;
}

-- the image that a crash leaves of a run on which a trace was played
pub image_played : {Op : Type 0} (meaning : Meaning Op) (plans : PlansAreRuns meaning) (trace : SeenTrace) (t : Content) (start : Recovered) (r : Run Op)
    (kept : Bool) (before after : List Shown) (a : Ahead) (image : An_image) → Shows trace t → CanPlay meaning start t →
    IsPlayed meaning t start kept r before after → Names a trace.all_ahead trace.ahead → IsImageOf meaning.layout image →
    image.words.items ≡ crash_image (picks_of a) r.state → IsImageOfRun meaning t start image
image_played meaning plans trace t start r kept before after a image shows can played names shape words = record {
  given = played.given;
  final = r;
  run = plans.runs t start played.works played.given r played.starts played.are_works played.follows;
  shape = shape_through image t.head.layout meaning.layout can.shape shape;
  words = words ∙ ap (λ f. crash_image f r.state) (picks_seen a trace t names shows);
}

-- what is told where this is wanted
pub on_wanted : {Op : Type 0} (meaning : Meaning Op) (trace : SeenTrace) (start : Recovered) (wanted w : Wanted) {X : Type 0} (items : X → List ℕ)
    (found : Result X NoMemory) → wanted ≡ w → IfOk found (λ x. IsToldSeen meaning trace w start (items x)) →
    IfOk found (λ x. IsToldSeen meaning trace wanted start (items x))
on_wanted meaning trace start wanted w items found is h = subst (λ (v : Wanted). IfOk found (λ x. IsToldSeen meaning trace v start (items x))) (sym is) h

report_text : (t : Content) (shows summary : Bool) (start : Recovered) (text : List ℕ) → StartsAt t start →
    IsReportText (structure_in t.head start.free.items).meaning t shows summary start text →
    ((told : Told) (is : IsReportOf (structure_in t.head start.free.items).meaning t shows start told) →
    SaysHeadline t shows start (shown_of is.given) told) → IsStepText structure_in t shows summary text
report_text t shows summary start text starts h say = record {
  start = start;
  starts = starts;
  told = h.told;
  is = h.is;
  says = say h.told h.is;
  summary_is = h.summary_is;
  text_is = h.text_is;
}

-- what is told of the run of a trace on its own structure is what is wanted of the trace
pub wanted_text : (t : Content) (wanted : Wanted) (start : Recovered) (text : List ℕ) → StartsAt t start →
    IsToldOf (structure_in t.head start.free.items).meaning t wanted start text →
    ((shows : Bool) (told : Told) (is : IsReportOf (structure_in t.head start.free.items).meaning t shows start told) →
    SaysHeadline t shows start (shown_of is.given) told) → IsWantedText t wanted text
wanted_text t Report start text starts h say = report_text t false false start text starts h (say false)
wanted_text t Events start text starts h say = report_text t true false start text starts h (say true)
wanted_text t Summary start text starts h say = report_text t false true start text starts h (say false)
wanted_text t Image start text starts h say = record { start = start; starts = starts; image = h.image; is = h.is; text_is = h.text_is }
