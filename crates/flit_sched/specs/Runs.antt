-- What a run is: the machine, the progress, the reads that have their places, and each worker with its items.
use Rattle.std.specs.Prelude.{◌≡◌, ℕ, ◌+◌, ◌++◌, List, ◌∷◌, Option, map, length}
use Rattle.flit_model.specs.Maps.{Map}
use Rattle.flit_model.specs.States.{State}
use Rattle.flit_model.specs.Settling.{Progress}
use Rattle.flit_model.specs.declared.calls.Item.{Item}
use Rattle.flit_model.specs.declared.calls.Outcome.{Outcome}
use Rattle.flit_model.specs.declared.calls.Placed.{Placed}
use Rattle.flit_structure.specs.declared.workers.Worker.{Worker}
use Rattle.flit_structure.specs.Moments.{Moment}

-- a worker of a run: what it is at, its items, how many events its stop leaves it, how many of its items are over, and
-- what became of each
pub record Part (Op : Type 0) : Type 0 where
  pub worker : Worker Op
  pub items : List Item
  pub left : Option ℕ
  pub over : ℕ
  pub outcomes : List (Option Outcome)

-- a run from a map
pub record Run (Op : Type 0) : Type 0 where
  pub content : Map
  pub state : State
  pub progress : Progress
  pub placed : List Placed
  pub parts : List (Part Op)

-- a structure, and a run of it
pub record Seen (S Op : Type 0) : Type 0 where
  pub structure : S
  pub run : Run Op

abbrev pub workers_of : {Op : Type 0} → List (Part Op) → List (Worker Op)
workers_of parts = map (λ p. p.worker) parts

module _ {Op : Type 0} where
  -- the moment of a run that was opened at these words with these free rows
  abbrev pub moment_of : Run Op → List ℕ → List ℕ → Moment Op
  moment_of r words free = record {
    opening = record { words = words; content = r.content; free = free };
    state = r.state;
    progress = r.progress;
    workers = workers_of r.parts;
  }

  -- a worker of the run, by its number from 1, and those before and behind it
  pub record IsPart (r : Run Op) (worker : ℕ) (before : List (Part Op)) (p : Part Op) (behind : List (Part Op)) : Type 0 where
    pub is : r.parts ≡ before ++ p ∷ behind
    pub number : worker ≡ length before + 1
