-- What is so of the runs of traces.
use Rattle.std.specs.Prelude.{◌≡◌, ◌⊎◌, ℕ, ◌≤◌, List, length, Option, Some, None}
use Rattle.flit_model.specs.declared.calls.Work.{Work}
use Rattle.flit_model.specs.declared.found.Recovered.{Recovered}
use Rattle.flit_structure.specs.Meanings.{Meaning}
use Rattle.flit_trace.specs.Contents.{Content}
use Rattle.flit_sched.specs.Runs.{Part, Run, IsPart}
use Rattle.flit_sched.specs.Openings.{opened_run}
use Rattle.flit_sched.specs.Turns.{IsOut}
use Rattle.flit_sched.specs.Views.{OfWorker}
use Rattle.flit_histories.specs.Following.{Given, Follows}
use Rattle.flit_histories.specs.Reached.{IsStart}
use Rattle.flit_histories.specs.TurnLaws.{events_by}
use Rattle.flit_turns.specs.Lines.{FollowsLines}
use Rattle.flit_step_reports.specs.StepReports.{AreWorksOf, plan_of, IsRunOf}

-- at the end of a run a worker without a stop has done all its items; with a stop it has made as many events as this says,
-- or fewer, and then it has done all its items
abbrev pub HasKeptStop : {Op : Type 0} → Option ℕ → ℕ → Part Op → Type 0
HasKeptStop None made p = length p.items ≤ p.over
HasKeptStop (Some n) made p = (made ≡ n) ⊎ ((made ≤ n) × (length p.items ≤ p.over))

module _ {Op : Type 0} (meaning : Meaning Op) where
  -- The turns of a trace's lines, given from an opening on, are a run of the trace; so it keeps the headline.
  -- At its end each worker is out, and has kept its stop.
  pub record PlansAreRuns : Type 0 where
    pub runs : (t : Content) (start : Recovered) (works : List Work) (given : List Given) (final : Run Op) → IsStart meaning start works →
        AreWorksOf t works → FollowsLines meaning (opened_run meaning start works) (plan_of t) given final → IsRunOf meaning t start given final
    pub follow : (t : Content) (r final : Run Op) (given : List Given) → FollowsLines meaning r (plan_of t) given final → Follows meaning r given final
    pub out : (t : Content) (r final : Run Op) (given : List Given) (worker : ℕ) → FollowsLines meaning r (plan_of t) given final →
        worker ≤ t.head.layout.workers → OfWorker final worker IsOut
    pub stops : (t : Content) (r final : Run Op) (given : List Given) (worker : ℕ) (first p : Part Op) (a b c d : List (Part Op)) →
        FollowsLines meaning r (plan_of t) given final → worker ≤ t.head.layout.workers → IsPart r worker a first b → IsPart final worker c p d →
        HasKeptStop first.left (events_by worker given) p
