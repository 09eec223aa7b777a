-- What it takes to run a trace on threads on a structure.
use Rattle.std.specs.Prelude.{◌≡◌, List}
use Rattle.flit_model.specs.declared.calls.Work.{Work}
use Rattle.flit_model.specs.declared.found.Recovered.{Recovered}
use Rattle.flit_structure.specs.Meanings.{Meaning}
use Rattle.flit_trace.specs.Contents.{Content}
use Rattle.flit_trace.specs.SeenTraces.{SeenTrace, Shows}
use Rattle.flit_table.specs.Passes.{BelongsTo, IsFirst}
use Rattle.flit_table.specs.Steps.{Home, meaning_of}
use Rattle.flit_table.specs.declared.passes.Pass.{Pass}
use Rattle.flit_step_reports.specs.StepReports.{AreWorksOf}
use Rattle.flit_step_runs.specs.Plays.{CanPlay}
use Rattle.flit_run_reports.specs.RunReports.{start_room}

-- A trace can be run on a structure from what recovery found: the structure has the trace's layout and as much room as rows
-- are free, it opens there, and the trace can be played on it.
pub record CanRun {Op : Type 0} (meaning : Meaning Op) (start : Recovered) (t : Content) : Type 0 where
  pub layout : meaning.layout ≡ t.head.layout
  pub room : meaning.room ≡ start_room start
  pub plays : CanPlay meaning start t

-- a trace is seen that can be run
abbrev pub CanRunSeen : {Op : Type 0} → Meaning Op → Recovered → SeenTrace → Type 0
CanRunSeen meaning start trace = (t : Content) × Shows trace t × CanRun meaning start t

-- A running structure is ready for a trace that is seen: it was opened where the trace can be run, this pass has all its names and
-- nobody has worked on it yet, and these are the trace's works.
module _ {S Op : Type 0} (meanings : S → Meaning Op) (home : Home S) where
  pub record IsReadyFor (pass : Pass S Op) (trace : SeenTrace) (works : List Work) : Type 0 where
    pub belongs : BelongsTo meanings home pass
    pub first : IsFirst (meaning_of meanings home) home.origin pass
    pub can : CanRunSeen (meaning_of meanings home) home.origin.start.value trace
    pub are_works : (t : Content) → Shows trace t → AreWorksOf t works
