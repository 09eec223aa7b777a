-- What is told of a run on which a trace was played is the report of that trace.
use Rattle.std.proofs.Common.{◌≡◌, ◌∙◌, Bool, List, []}
use Rattle.flit_model.specs.declared.found.Recovered.{Recovered}
use Rattle.flit_report.specs.declared.content.Shown.{Shown}
use Rattle.flit_report.specs.Content.{Content as Told}
use Rattle.flit_structure.specs.Meanings.{Meaning}
use Rattle.flit_trace.specs.Contents.{Content}
use Rattle.flit_trace.specs.SeenTraces.{SeenTrace, Shows}
use Rattle.flit_sched.specs.Runs.{Run}
use Rattle.flit_step_reports.specs.StepLaws.{PlansAreRuns}
use Rattle.flit_step_reports.specs.StepReports.{IsRunOf, IsReportOf, told_lines}
use Rattle.flit_step_runs.specs.Plays.{CanPlay, CanPlaySeen, IsPlayed, IsRunSeen, TellsRun}

module _ {Op : Type 0} (meaning : Meaning Op) (plans : PlansAreRuns meaning) (start : Recovered) (final : Run Op) (kept : Bool) (after : List Shown) where
  run_played : (t : Content) (p : IsPlayed meaning t start kept final [] after) → IsRunOf meaning t start p.given final
  run_played t p = plans.runs t start p.works p.given final p.starts p.are_works p.follows

  -- the run of a trace that is seen is one
  pub run_seen : (trace : SeenTrace) → CanPlaySeen meaning start trace →
      ((t : Content) → Shows trace t → CanPlay meaning start t → IsPlayed meaning t start kept final [] after) → IsRunSeen meaning trace final
  run_seen trace can played =
      let p = played can.0 can.1 can.2 in
      record { content = can.0; shows = can.1; start = start; given = p.given; run = run_played can.0 p }

  -- with the line of each call it is the report
  pub is_report : (t : Content) (told : Told) → IsPlayed meaning t start kept final [] after → told.events ≡ after → told.lines ≡ told_lines final [] t.items →
      TellsRun meaning t final told → IsReportOf meaning t kept start told
  is_report t told p events lines tells = record {
    given = p.given;
    final = final;
    run = run_played t p;
    version = tells.version;
    events = events ∙ p.shown;
    lines = lines;
    history = tells.history;
    tallies = tells.tallies;
    recovered = tells.recovered;
  }
