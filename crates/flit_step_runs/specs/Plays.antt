-- What it takes to play a trace on a structure.
use Rattle.std.specs.Prelude.{◌≡◌, ◌++◌, Bool, List, map}
use Rattle.std.specs.List.{AllByRecursion}
use Rattle.flit_model.specs.CrashImages.{crash_image}
use Rattle.flit_model.specs.Lists.{IsRisingFrom}
use Rattle.flit_model.specs.Recovery.{SameShape}
use Rattle.flit_model.specs.declared.calls.Work.{Work}
use Rattle.flit_model.specs.declared.found.Recovered.{Recovered}
use Rattle.flit_report.specs.Content.{Content as Told}
use Rattle.flit_report.specs.declared.content.Shown.{Shown}
use Rattle.flit_structure.specs.Meanings.{Meaning}
use Rattle.flit_trace.specs.Contents.{Content}
use Rattle.flit_trace.specs.Rights.{IsRightLine, IsRightTurn, lines_of_items}
use Rattle.flit_trace.specs.SeenTraces.{SeenTrace, Shows}
use Rattle.flit_sched.specs.Runs.{Run}
use Rattle.flit_sched.specs.Openings.{opened_run}
use Rattle.flit_sched.specs.Turns.{tally_in}
use Rattle.flit_sched.specs.Views.{history_with}
use Rattle.flit_histories.specs.Following.{Given}
use Rattle.flit_histories.specs.Reached.{IsStart}
use Rattle.flit_turns.specs.Lines.{shown_if, FollowsLines}
use Rattle.flit_step_reports.specs.StepReports.{AreWorksOf, plan_of, picks_in, version_of, TellsRecovery, IsRunOf}

-- A trace can be played on a structure from what recovery found: the structure has the trace's words, a run opens there with
-- the trace's works, the line numbers rise, and each line and each turn line names one of the trace's workers.
pub record CanPlay {Op : Type 0} (meaning : Meaning Op) (start : Recovered) (t : Content) : Type 0 where
  pub shape : SameShape t.head.layout meaning.layout
  pub starts : (works : List Work) → AreWorksOf t works → IsStart meaning start works
  pub rising : IsRisingFrom 1 (lines_of_items t.items)
  pub lines : AllByRecursion (IsRightLine t.head.layout) t.items
  pub turns : AllByRecursion (IsRightTurn t.head.layout) t.turns

-- a trace is seen that can be played
abbrev pub CanPlaySeen : {Op : Type 0} → Meaning Op → Recovered → SeenTrace → Type 0
CanPlaySeen meaning start trace = (t : Content) × Shows trace t × CanPlay meaning start t

-- a trace is seen that has the workers and the turn lines of this content
pub record ShowsTurns (trace : SeenTrace) (t : Content) : Type 0 where
  pub head : trace.head ≡ t.head
  pub turns : trace.turns ≡ t.turns

-- A run is that of the trace's turns, opened at what recovery found; their events are shown, where they are kept, behind those
-- that were shown before.
pub record IsPlayed {Op : Type 0} (meaning : Meaning Op) (t : Content) (start : Recovered) (kept : Bool) (final : Run Op)
    (before after : List Shown) : Type 0 where
  pub given : List Given
  pub works : List Work
  pub are_works : AreWorksOf t works
  pub starts : IsStart meaning start works
  pub follows : FollowsLines meaning (opened_run meaning start works) (plan_of t) given final
  pub shown : after ≡ before ++ shown_if kept given

-- a run is that of a trace which is seen
pub record IsRunSeen {Op : Type 0} (meaning : Meaning Op) (trace : SeenTrace) (final : Run Op) : Type 0 where
  pub content : Content
  pub shows : Shows trace content
  pub start : Recovered
  pub given : List Given
  pub run : IsRunOf meaning content start given final

-- of a run are told the history, the tallies, and what recovery finds
pub record TellsRun {Op : Type 0} (meaning : Meaning Op) (t : Content) (final : Run Op) (told : Told) : Type 0 where
  pub version : told.version ≡ version_of t.head.layout
  pub history : told.history ≡ history_with final (picks_in t)
  pub tallies : told.tallies ≡ map (λ p. tally_in meaning p.worker.doing) final.parts
  pub recovered : TellsRecovery t.head.layout (crash_image (picks_in t) final.state) told

abbrev pub TellsRunSeen : {Op : Type 0} → Meaning Op → SeenTrace → Run Op → Told → Type 0
TellsRunSeen meaning trace final told = (t : Content) → Shows trace t → SameShape t.head.layout meaning.layout → TellsRun meaning t final told
