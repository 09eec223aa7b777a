-- What is told of the lines of a trace, each with its number.
use Rattle.std.specs.Prelude.{◌≡◌, ℕ, ◌+◌, ◌≤◌, List, [], ◌∷◌, ◌++◌, map, length, IsSortedByKey}
use Rattle.std.specs.List.Sorted.{IsStableByKey}
use Rattle.std.specs.Ordering.{nat_cmp}
use Rattle.flit_words.specs.declared.limits.TheConstants.{MOST_CALLS}
use Rattle.flit_model.specs.declared.calls.Item.{Item}
use Rattle.flit_report.specs.declared.content.Line.{Line}
use Rattle.flit_trace.specs.Contents.{Content}
use Rattle.flit_trace.specs.SeenTraces.{SeenTrace, IsWorker, script_at}
use Rattle.flit_sched.specs.Runs.{Run}
use Rattle.flit_sched.specs.Views.{OfWorker}
use Rattle.flit_step_reports.specs.StepReports.{items_in, told_item}

-- what is told of a line of a worker that has so many before it
abbrev pub numbered_item : {Op : Type 0} → Run Op → ℕ → ℕ → ℕ → Item → List (ℕ × Line)
numbered_item r number worker before item = map (λ l. (number, l)) (told_item r worker before item)

-- what is told of the lines of a worker, so many of which were before them
abbrev pub numbered_script : {Op : Type 0} → Run Op → ℕ → ℕ → List (ℕ × Item) → List (ℕ × Line)
numbered_script r worker before [] = []
numbered_script r worker before (l ∷ ls) = numbered_item r l.0 worker before l.1 ++ numbered_script r worker (before + 1) ls

-- what is told of the items of a worker, so many of which were before them
abbrev pub told_items : {Op : Type 0} → Run Op → ℕ → ℕ → List Item → List Line
told_items r worker before [] = []
told_items r worker before (i ∷ is) = told_item r worker before i ++ told_items r worker (before + 1) is

-- the workers of the run are those of the trace, each has the items of its lines, and these are within the limit
pub record HoldsItems {Op : Type 0} (t : Content) (r : Run Op) : Type 0 where
  pub long : length r.parts ≡ t.head.layout.workers
  pub items : (worker : ℕ) → 1 ≤ worker → worker ≤ t.head.layout.workers → OfWorker r worker (λ p. p.items ≡ items_in t worker)
  pub few : (worker : ℕ) → 1 ≤ worker → worker ≤ t.head.layout.workers → length (items_in t worker) ≤ MOST_CALLS

-- the workers of the run are those of the trace, each has as many items as its script, and these are within the limit
pub record HoldsScripts {Op : Type 0} (trace : SeenTrace) (r : Run Op) : Type 0 where
  pub long : length r.parts ≡ trace.head.layout.workers
  pub items : (worker : ℕ) → IsWorker trace worker → OfWorker r worker (λ p. length p.items ≡ length (script_at trace worker))
  pub few : (worker : ℕ) → IsWorker trace worker → length (script_at trace worker) ≤ MOST_CALLS

-- these lines are some numbered ones in the order of their numbers, and without these; those of one number stand as they stood
pub record IsInLineOrder (told : List (ℕ × Line)) (lines : List Line) : Type 0 where
  pub sorted : List (ℕ × Line)
  pub rises : IsSortedByKey (λ l. l.0) nat_cmp sorted
  pub stable : IsStableByKey (λ l. l.0) nat_cmp told sorted
  pub lines_are : lines ≡ map (λ l. l.1) sorted
