-- The report that a summary counts: that of the run, with the history and the tallies, which nobody has to make.
use Rattle.std.proofs.Common.{◌≡◌, ℕ, true, false, List, [], map, length, refl, subst}
use Rattle.flit_model.specs.CrashImages.{crash_image}
use Rattle.flit_model.specs.Recovery.{IsImageOf, IsRecovery, layout_of}
use Rattle.flit_model.specs.declared.calls.Ahead.{Ahead}
use Rattle.flit_model.specs.declared.found.Image.{Image}
use Rattle.flit_model.specs.declared.found.Recovered.{Recovered}
use Rattle.flit_report.specs.Content.{Content as Told, text_of}
use Rattle.flit_report.specs.declared.content.Shown.{Shown}
use Rattle.flit_structure.specs.Meanings.{Meaning}
use Rattle.flit_trace.specs.Ahead.{Names}
use Rattle.flit_trace.specs.Contents.{Content}
use Rattle.flit_trace.specs.SeenTraces.{SeenTrace, Shows}
use Rattle.flit_sched.specs.Runs.{Run}
use Rattle.flit_sched.specs.Turns.{tally_in}
use Rattle.flit_sched.specs.Views.{history_with, picks_of}
use Rattle.flit_step_reports.specs.StepLaws.{PlansAreRuns}
use Rattle.flit_step_reports.specs.StepReports.{told_lines, picks_in, version_of}
use Rattle.flit_step_runs.specs.Counts.{AreCountsOf, IsSummaryOf}
use Rattle.flit_step_runs.specs.Plays.{CanPlay, IsPlayed}
use Rattle.flit_step_runs.specs.declared.counting.Counts.{Counts}
use Rattle.flit_step_runs.proofs.ReportLaws.{is_report}
use Rattle.flit_step_runs.proofs.TellingLaws.{picks_seen, found_in}

module _ {Op : Type 0} (meaning : Meaning Op) (final : Run Op) (after : List Shown) (t : Content) (keys values free : List ℕ) where
  told_of : Told
  told_of = record {
    summary = true;
    version = version_of t.head.layout;
    events = after;
    lines = told_lines final [] t.items;
    history = history_with final (picks_in t);
    tallies = map (λ p. tally_in meaning p.worker.doing) final.parts;
    keys = keys;
    values = values;
    free = length free;
  }

  pub is_summary : (plans : PlansAreRuns meaning) (start : Recovered) (trace : SeenTrace) (a : Ahead) (image : Image) (counts : Counts) (count : ℕ) (text : List ℕ) →
      Shows trace t → CanPlay meaning start t → IsPlayed meaning t start false final [] after → Names a trace.all_ahead trace.ahead →
      IsImageOf meaning.layout image → image.words.items ≡ crash_image (picks_of a) final.state →
      IsRecovery (layout_of image) image.words.items keys values free →
      AreCountsOf counts (told_lines final [] t.items) → count ≡ length keys →
      ((told : Told) → told.summary ≡ true → AreCountsOf counts told.lines → count ≡ length told.keys → text ≡ text_of told) →
      IsSummaryOf meaning t start text
  unfolding told_of
  is_summary plans start trace a image counts count text shows can played names shape words recovery counted long says =
      let picks = picks_seen a trace t names shows in
      record {
        told = told_of;
        is = is_report meaning plans start final false after t told_of played refl refl (record {
          version = refl;
          history = refl;
          tallies = refl;
          recovered = record {
            free = free;
            recovery = subst (λ f. IsRecovery t.head.layout (crash_image f final.state) keys values free) picks
                (found_in meaning t.head.layout image (picks_of a) final keys values free can.shape shape words recovery);
            free_is = refl;
          };
        });
        summary_is = refl;
        text_is = says told_of refl counted long;
      }
