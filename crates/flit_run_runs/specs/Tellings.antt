-- What is told of the calls of a trace, worker by worker and in the order of its lines; and of what recovery finds.
use Rattle.std.specs.Prelude.{◌≡◌, ℕ, ◌-◌, List, [], ◌∷◌, length, slice_index_or}
use Rattle.std.specs.FinMap as map_of_pairs
use Rattle.flit_words.specs.declared.layouts.Layout.{Layout}
use Rattle.flit_model.specs.Maps.{Map}
use Rattle.flit_model.specs.Recovery.{IsImageOf, IsWhole}
use Rattle.flit_model.specs.declared.calls.Item.{Item}
use Rattle.flit_model.specs.declared.calls.Item.TheVariants.{Call as Call_item, Evict as Evict_item}
use Rattle.flit_model.specs.declared.calls.Outcome.{Outcome}
use Rattle.flit_model.specs.declared.calls.Outcome.TheVariants.{Stopped}
use Rattle.flit_model.specs.declared.found.Image.{Image}
use Rattle.flit_lawful_images.specs.Maps.{IsMapOf}
use Rattle.flit_report.specs.declared.content.Line.{Line}
use Rattle.flit_report.specs.Content.{Content as Report}
use Rattle.flit_trace.specs.Contents.{Content}
use Rattle.flit_trace.specs.SeenTraces.{SeenTrace, script_at}
use Rattle.flit_workers.specs.Works.{calls_in}
use Rattle.flit_step_reports.specs.StepReports.{items_in, version_of, TellsRecovery}
use Rattle.flit_run_reports.specs.RunReports.{IsWorkerOf, calls_in_order, calls_printed, outcomes_by}

-- the first of some outcomes, and the others
abbrev pub first_of : List Outcome → Outcome
first_of [] = Stopped
first_of (o ∷ os) = o

abbrev pub others_of : List Outcome → List Outcome
others_of [] = []
others_of (o ∷ os) = os

-- the lines of a worker's calls with their outcomes, each with the number of its line
abbrev pub numbered_calls : ℕ → List Outcome → List (ℕ × Item) → List (ℕ × Line)
numbered_calls worker outcomes [] = []
numbered_calls worker outcomes ((number, Call_item call) ∷ rest) =
    (number, record { worker = worker; call = call; outcome = first_of outcomes }) ∷ numbered_calls worker (others_of outcomes) rest
numbered_calls worker outcomes ((number, Evict_item word) ∷ rest) = numbered_calls worker outcomes rest

-- those of a worker of a trace, where these are the outcomes of all workers, worker 1 first
abbrev pub outcomes_at : List (List Outcome) → ℕ → List Outcome
outcomes_at outcomes worker = slice_index_or outcomes (worker - 1) []

abbrev pub calls_of_worker : SeenTrace → List (List Outcome) → ℕ → List (ℕ × Line)
calls_of_worker trace outcomes worker = numbered_calls worker (outcomes_at outcomes worker) (script_at trace worker)

-- lines tell the calls of a trace in the order of its lines; and of a worker with an outcome for each call they tell these
pub record TellsCalls (t : Content) (outcomes : List (List Outcome)) (lines : List Line) : Type 0 where
  pub calls : calls_printed lines ≡ calls_in_order t.items
  pub each : (worker : ℕ) → IsWorkerOf t worker → length (outcomes_at outcomes worker) ≡ length (calls_in (items_in t worker)) →
      outcomes_by worker lines ≡ outcomes_at outcomes worker

-- an image of this layout is whole and has a map
pub record IsFoundImage (l : Layout) (i : Image) : Type 0 where
  pub shape : IsImageOf l i
  pub whole : IsWhole i
  pub map_is : (m : Map) × IsMapOf i m

-- what is told of an image: what recovery finds there, which is its map; and no events, no history and no tallies
pub record TellsFound (l : Layout) (i : Image) (report : Report) : Type 0 where
  pub version : report.version ≡ version_of l
  pub events : report.events ≡ []
  pub history : report.history ≡ []
  pub tallies : report.tallies ≡ []
  pub recovery : TellsRecovery l i.words.items report
  pub pairs : (m : Map) → IsMapOf i m → (report.keys ≡ map_of_pairs.keys m) × (report.values ≡ map_of_pairs.values m)
