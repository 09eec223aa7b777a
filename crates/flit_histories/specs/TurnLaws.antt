-- What is so of turns that are given one after another.
use Rattle.std.specs.Prelude.{◌≡◌, ◌⊎◌, ℕ, ◌+◌, ◌-◌, ◌<◌, ◌≤◌, ◌==◌, ◌++◌, Bool, List, [], ◌∷◌, length, filter, Option, Some, None, slice_get, if◌then◌else◌}
use Rattle.std.specs.List.{AllByRecursion}
use Rattle.flit_model.specs.declared.calls.Entry.{Entry}
use Rattle.flit_model.specs.declared.calls.Placed.{Placed}
use Rattle.flit_structure.specs.Meanings.{Meaning}
use Rattle.flit_structure.specs.Laws.{IsContinued}
use Rattle.flit_sched.specs.declared.runs.Turn.{Turn}
use Rattle.flit_sched.specs.declared.runs.Turn.TheVariants.{Event as Event_turn, Idle}
use Rattle.flit_sched.specs.Runs.{Part, Run, IsPart}
use Rattle.flit_sched.specs.Turns.{IsOut, IsTurn, Alone}
use Rattle.flit_histories.specs.Following.{Given, Follows}
use Rattle.flit_sched.specs.Views.{OfWorker, history_with}
use Rattle.flit_histories.specs.Calls.{is_of}
use Rattle.flit_histories.specs.Reached.{Leads, IsReached}
use Rattle.flit_histories.specs.Orders.{IsOver, IsYetToBegin, IsIn, StandsBefore, AreReadsOfOne}

-- how many events a worker made by some turns
abbrev pub one_if_event : Turn → ℕ
one_if_event (Event_turn e told) = 1
one_if_event Idle = 0

abbrev pub events_by : ℕ → List Given → ℕ
events_by worker [] = 0
events_by worker (t ∷ ts) = (if t.worker == worker then one_if_event t.turn else 0) + events_by worker ts

-- a stop that left so many events leaves so many less after some, which are no more; where there is no stop, there is none
-- later
abbrev pub IsLeftBy : ℕ → Option ℕ → Option ℕ → Type 0
IsLeftBy made None left = left ≡ None
IsLeftBy made (Some n) left = (made ≤ n) × (left ≡ Some (n - made))

-- a worker later on: its items are the same, no fewer are over, and each that is over keeps its outcome; no fewer calls are
-- begun; and one that is out stays so
pub record IsLater {Op : Type 0} (p q : Part Op) : Type 0 where
  pub items : q.items ≡ p.items
  pub over : p.over ≤ q.over
  pub told : (k : ℕ) → k < p.over → slice_get q.outcomes k ≡ slice_get p.outcomes k
  pub number : p.worker.number ≤ q.worker.number
  pub out : IsOut p → q ≡ p

-- the worker of this number in a run is this one later on
pub record HasLater {Op : Type 0} (r : Run Op) (worker : ℕ) (p : Part Op) : Type 0 where
  pub before : List (Part Op)
  pub part : Part Op
  pub behind : List (Part Op)
  pub is : IsPart r worker before part behind
  pub later : IsLater p part

module _ {Op : Type 0} (meaning : Meaning Op) where
  -- by this turn a call gets its reply: it is over after it, and wasn't before
  pub record Ends (r : Run Op) (t : Given) (next : Run Op) (name number : ℕ) : Type 0 where
    pub turned : IsTurn meaning r t.worker t.turn next
    pub yet : ¬ (IsOver r name number)
    pub over : IsOver next name number

  -- by this turn a call makes its first event: it hadn't begun before it, and has after it
  pub record Begins (r : Run Op) (t : Given) (next : Run Op) (name number : ℕ) : Type 0 where
    pub turned : IsTurn meaning r t.worker t.turn next
    pub yet : IsYetToBegin r name number
    pub begun : ¬ (IsYetToBegin next name number)

  -- Turns compose and can be parted, and they are what leads from one run to another, by one worker alone too; so what holds of each run that is
  -- reached holds after them. The map at the start stays, settled updates stay settled, and the workers stay, each later
  -- on; what a stop leaves a worker is less by the events that it made. A worker that is out stays as it is, and a turn
  -- that is given to it is idle.
  pub record TurnsLead : Type 0 where
    pub joined : (r q next : Run Op) (ts us : List Given) → Follows meaning r ts q → Follows meaning q us next → Follows meaning r (ts ++ us) next
    pub parted : (r next : Run Op) (ts us : List Given) → Follows meaning r (ts ++ us) next →
        (q : Run Op) × Follows meaning r ts q × Follows meaning q us next
    pub leads : (r next : Run Op) (ts : List Given) → Follows meaning r ts next → Leads meaning r next
    pub led : (r next : Run Op) → Leads meaning r next → (ts : List Given) × Follows meaning r ts next
    pub alone : (r next : Run Op) (worker : ℕ) → Alone meaning worker r next →
        (ts : List Given) × Follows meaning r ts next × AllByRecursion (λ t. t.worker ≡ worker) ts
    pub reached : (r next : Run Op) (ts : List Given) → IsReached meaning r → Follows meaning r ts next → IsReached meaning next
    pub content : (r next : Run Op) (ts : List Given) → Follows meaning r ts next → next.content ≡ r.content
    pub settled : (r next : Run Op) (ts : List Given) → IsReached meaning r → Follows meaning r ts next →
        IsContinued r.progress.settled next.progress.settled
    pub long : (r next : Run Op) (ts : List Given) → Follows meaning r ts next → length next.parts ≡ length r.parts
    pub workers : (r next : Run Op) (ts : List Given) (worker : ℕ) (before : List (Part Op)) (p : Part Op) (behind : List (Part Op)) →
        Follows meaning r ts next → IsPart r worker before p behind → HasLater next worker p
    pub stops : (r next : Run Op) (ts : List Given) (worker : ℕ) (p q : Part Op) (a b c d : List (Part Op)) → Follows meaning r ts next →
        IsPart r worker a p b → IsPart next worker c q d → IsLeftBy (events_by worker ts) p.left q.left
    pub out : (r next : Run Op) (ts : List Given) (worker : ℕ) → Follows meaning r ts next → OfWorker r worker IsOut → OfWorker next worker IsOut
    pub idle : (r next : Run Op) (worker : ℕ) (turn : Turn) → OfWorker r worker IsOut → IsTurn meaning r worker turn next →
        (turn ≡ Idle) × (next ≡ r)

  -- What came of a call that is over stays: it is over later on, and each later history has of it, whatever values ahead
  -- are taken, what the history had of it then. Placed reads stay placed, in their order.
  pub record HistoriesStay : Type 0 where
    pub over : (r next : Run Op) (ts : List Given) (name number : ℕ) → Follows meaning r ts next → IsOver r name number → IsOver next name number
    pub entries : (r next : Run Op) (ts : List Given) (picks others : ℕ → Bool) (name number : ℕ) → IsReached meaning r → Follows meaning r ts next →
        IsOver r name number → filter (is_of name number) (history_with next others) ≡ filter (is_of name number) (history_with r picks)
    pub placed : (r next : Run Op) (ts : List Given) → Follows meaning r ts next → (more : List Placed) × (next.placed ≡ r.placed ++ more)

  -- Two calls, of which one gets its reply by a turn that was given before the turn by which the other makes its first
  -- event: in each later history an entry of the first stands before an entry of the second, or both are reads of one
  -- position.
  abbrev pub TurnsOrderCalls : Type 0
  TurnsOrderCalls = (was ended between begun next : Run Op) (t u : Given) (middle back : List Given) (picks : ℕ → Bool) (d e : Entry) →
      IsReached meaning was → Ends was t ended d.worker d.number → Follows meaning ended middle between →
      Begins between u begun e.worker e.number → Follows meaning begun back next →
      IsIn (history_with next picks) d → IsIn (history_with next picks) e →
      StandsBefore (history_with next picks) d e ⊎ AreReadsOfOne next.placed d e
