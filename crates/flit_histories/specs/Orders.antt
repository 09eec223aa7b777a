-- Calls that are over and calls that have not begun; and what stands before what in a list.
use Rattle.std.specs.Prelude.{◌≡◌, ℕ, ◌<◌, ◌++◌, List, ◌∷◌}
use Rattle.flit_model.specs.declared.calls.Call.{Call}
use Rattle.flit_model.specs.declared.calls.Entry.{Entry}
use Rattle.flit_model.specs.declared.calls.Placed.{Placed}
use Rattle.flit_sched.specs.Runs.{Part, Run, IsPart}
use Rattle.flit_histories.specs.Calls.{IsCallIn}

module _ {Op : Type 0} where
  -- the call of this name and number is over
  pub record IsOver (r : Run Op) (name number : ℕ) : Type 0 where
    pub part : Part Op
    pub item : ℕ
    pub call : Call
    pub is : IsCallIn r name part item call number
    pub over : item < part.over

  -- the worker of this name has not yet begun so many calls
  pub record IsYetToBegin (r : Run Op) (name number : ℕ) : Type 0 where
    pub before : List (Part Op)
    pub part : Part Op
    pub behind : List (Part Op)
    pub is : IsPart r name before part behind
    pub above : part.worker.number < number

-- an element of a list, and two of which one stands before the other
abbrev pub IsIn : {X : Type 0} → List X → X → Type 0
IsIn {X} xs x = (front : List X) × (back : List X) × (xs ≡ front ++ x ∷ back)

abbrev pub StandsBefore : {X : Type 0} → List X → X → X → Type 0
StandsBefore {X} xs x y = (front : List X) × (middle : List X) × (back : List X) × (xs ≡ front ++ x ∷ (middle ++ y ∷ back))

-- two entries are reads of one position
abbrev pub AreReadsOfOne : List Placed → Entry → Entry → Type 0
AreReadsOfOne placed d e = (position : ℕ) × IsIn placed (record { position = position; entry = d }) × IsIn placed (record { position = position; entry = e })
