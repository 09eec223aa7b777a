-- The report that a summary of `run` counts, which nobody makes: that of the run, with the lines of all calls.
use Rattle.std.proofs.Common.{◌≡◌, ℕ, true, List, [], map, flat_map, length, refl, Vec}
use Rattle.std.specs.FinMap as map_of_pairs
use Rattle.std.specs.Global.{Global}
use Rattle.std.specs.List.{AllByRecursion}
use Rattle.flit_model.specs.Maps.{Map}
use Rattle.flit_model.specs.Recovery.{IsRecovery, layout_of}
use Rattle.flit_model.specs.declared.calls.Outcome.{Outcome}
use Rattle.flit_model.specs.declared.found.Image.{Image}
use Rattle.flit_model.specs.declared.found.Recovered.{Recovered}
use Rattle.flit_lawful_images.specs.Maps.{IsMapOf}
use Rattle.flit_report.specs.Content.{Content as Report, text_of}
use Rattle.flit_trace.specs.Contents.{Content}
use Rattle.flit_trace.specs.Rights.{IsRightLine}
use Rattle.flit_sched.proofs.ShapeLaws.{same_shape_recovery}
use Rattle.flit_table.specs.declared.told.Known.{Known}
use Rattle.flit_step_reports.specs.StepReports.{version_of}
use Rattle.flit_step_runs.specs.Counts.{AreCountsOf}
use Rattle.flit_step_runs.specs.declared.counting.Counts.{Counts}
use Rattle.flit_run_reports.specs.RunLaws.{TellsTrace}
use Rattle.flit_run_runs.specs.Summaries.{CountsOutcomes, IsRunSummaryOf}
use Rattle.flit_run_runs.specs.Tellings.{outcomes_at, TellsFound}
use Rattle.flit_run_runs.proofs.CountedOutcomes.{counts_told}
use Rattle.flit_run_runs.proofs.ToldCalls.{told_calls, tells}
use Rattle.flit_run_runs.proofs.ToldReports.{image_told, report_told}

module _ (t : Content) (xs : List (Vec Outcome Global)) (keys values free : List ℕ) where
  report_of : Report
  report_of = record {
    summary = true;
    version = version_of t.head.layout;
    events = [];
    lines = told_calls (outcomes_at (map (λ os. os.items) xs)) t.items;
    history = [];
    tallies = [];
    keys = keys;
    values = values;
    free = length free;
  }

  pub is_summary : (start : Recovered) (k : Known) (image : Image) (counts : Counts) (count : ℕ) (text : List ℕ) →
      TellsTrace t start k (map (λ os. os.items) xs) → AllByRecursion (IsRightLine t.head.layout) t.items → k.image ≡ image →
      IsRecovery (layout_of image) image.words.items keys values free →
      ((m : Map) → IsMapOf image m → (keys ≡ map_of_pairs.keys m) × (values ≡ map_of_pairs.values m)) → CountsOutcomes counts (flat_map (λ os. os.items) xs) → count ≡ length keys →
      ((told : Report) → told.summary ≡ true → AreCountsOf counts told.lines → count ≡ length told.keys → text ≡ text_of told) →
      IsRunSummaryOf t start k text
  unfolding report_of
  is_summary start k image counts count text of_trace right same recovery pairs counted long says =
      let all = map (λ os. os.items) xs in
      let lines = told_calls (outcomes_at all) t.items in
      let calls = tells t all in
      let shape = (image_told t start k all of_trace t.head.layout image refl same).shape in
      let finds : TellsFound t.head.layout image report_of = record {
        version = refl;
        events = refl;
        history = refl;
        tallies = refl;
        recovery = record {
          free = free;
          recovery = same_shape_recovery (layout_of image) t.head.layout image.words.items keys values free shape recovery;
          free_is = refl;
        };
        pairs = pairs;
      } in
      record {
        report = report_of;
        is = report_told t start k all of_trace lines calls image t.head.layout report_of right same refl refl finds;
        summary_is = refl;
        text_is = says report_of refl (counts_told t start k xs of_trace lines calls right counts counted) long;
      }
