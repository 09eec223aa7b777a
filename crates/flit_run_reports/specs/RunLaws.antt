-- What is so of the runs of traces on threads.
use Rattle.std.specs.Prelude.{◌≡◌, ℕ, ◌-◌, List, [], length, slice_index_or}
use Rattle.flit_model.specs.declared.calls.Ahead.TheVariants.{None as No_ahead}
use Rattle.flit_model.specs.declared.calls.Outcome.{Outcome}
use Rattle.flit_model.specs.declared.calls.Work.{Work}
use Rattle.flit_model.specs.declared.found.Recovered.{Recovered}
use Rattle.flit_structure.specs.Meanings.{Meaning}
use Rattle.flit_trace.specs.Contents.{Content}
use Rattle.flit_table.specs.declared.told.Known.{Known}
use Rattle.flit_table.specs.declared.views.Origin.{Origin}
use Rattle.flit_thread_histories.specs.Promises.{KeepsPromises}
use Rattle.flit_step_reports.specs.StepReports.{AreWorksOf}
use Rattle.flit_run_reports.specs.RunReports.{IsWorkerOf, IsRunOnThreads, AreOutcomesOf, start_room}

-- what is told is of a run of the trace, and these are the outcomes of all workers, worker 1 first
pub record TellsTrace (t : Content) (start : Recovered) (k : Known) (outcomes : List (List Outcome)) : Type 0 where
  pub run : IsRunOnThreads t start k
  pub each : length outcomes ≡ t.head.layout.workers
  pub are_outcomes : (worker : ℕ) → IsWorkerOf t worker → AreOutcomesOf t k worker (slice_index_or outcomes (worker - 1) [])

module _ {S Op : Type 0} (meaning : Meaning Op) (o : Origin S) where
  -- works of a trace were run on a structure with the trace's layout and as much room as rows are free at the start, and what
  -- is told keeps all promises
  pub record HaveRunTrace (t : Content) (works : List Work) (outcomes : List (List Outcome)) (k : Known) : Type 0 where
    pub layout : meaning.layout ≡ t.head.layout
    pub room : meaning.room ≡ start_room o.start.value
    pub are_works : AreWorksOf t works
    pub ahead : k.ahead ≡ No_ahead
    pub promises : KeepsPromises meaning o works outcomes k

  abbrev pub PromisesTellTraces : Type 0
  PromisesTellTraces = (t : Content) (works : List Work) (outcomes : List (List Outcome)) (k : Known) → HaveRunTrace t works outcomes k →
      TellsTrace t o.start.value k outcomes
