-- A worker as it is kept in its place, and the worker that is meant: one that is done with its item is idle, with the
-- hand that its ended operation or Evict still holds.
use Rattle.std.specs.Prelude.{◌≡◌, ℕ, ◌+◌, [], ◌∷◌, Bool, true, false, List, length, Option, Some, None, IsSome, IsNone, is_none, map}
use Rattle.std.specs.List.{AllByRecursion}
use Rattle.flit_words.specs.Layouts.{words_of}
use Rattle.flit_model.specs.Maps.{Map}
use Rattle.flit_model.specs.States.{State}
use Rattle.flit_model.specs.declared.calls.Entry.{Entry}
use Rattle.flit_model.specs.declared.calls.Placed.{Placed}
use Rattle.flit_pv.specs.Hands.{first_hand}
use Rattle.flit_pv.specs.Evicts.{evict_asked}
use Rattle.flit_structure.specs.declared.workers.Doing.{Doing}
use Rattle.flit_structure.specs.declared.workers.Doing.TheVariants.{Idle, Busy, Evicting}
use Rattle.flit_structure.specs.declared.workers.Worker.{Worker}
use Rattle.flit_structure.specs.Meanings.{Meaning, replied}
use Rattle.flit_sched.specs.declared.players.Player.{Player}
use Rattle.flit_sched.specs.declared.seats.At.{At}
use Rattle.flit_sched.specs.declared.seats.At.TheVariants.{New, Call as At_call, Evict as At_evict}
use Rattle.flit_sched.specs.declared.seats.Seat.{Seat}
use Rattle.flit_model.specs.declared.calls.Work.{Work}
use Rattle.flit_sched.specs.Runs.{Run}
use Rattle.flit_sched.specs.Openings.{first_outcome}
use Rattle.flit_sched.specs.Kept.{IsKept, run_of}
use Rattle.flit_sched.specs.Settled.{AreLastFrom}

-- the worker is at no item
abbrev pub at_rest : {Op : Type 0} → At Op → Bool
at_rest New = true
at_rest (At_call op under_way) = is_none under_way
at_rest (At_evict evict over) = over

-- workers that have done nothing, of these names, with these works
pub record IsHired {Op : Type 0} (name : ℕ) (work : Work) (p : Player (Seat Op)) : Type 0 where
  pub worker : p.worker ≡ record { name = name; number = 0; at = New }
  pub work_is : p.work ≡ work
  pub left : p.left ≡ work.stop
  pub over : p.over ≡ 0
  pub outcomes : p.outcomes.items ≡ map first_outcome work.items.items
  pub waiting : p.waiting ≡ None

abbrev pub AreHiredFrom : {Op : Type 0} → ℕ → List Work → List (Player (Seat Op)) → Type 0
AreHiredFrom name [] [] = Unit {0}
AreHiredFrom name [] (p ∷ ps) = ⊥
AreHiredFrom name (w ∷ ws) [] = ⊥
AreHiredFrom name (w ∷ ws) (p ∷ ps) = IsHired name w p × AreHiredFrom (name + 1) ws ps

module _ {Op : Type 0} (meaning : Meaning Op) where
  -- what the worker of this name is at
  abbrev pub doing_of : ℕ → At Op → Doing Op
  doing_of name New = Idle (first_hand name)
  doing_of name (At_call op None) = Idle (meaning.finished op)
  doing_of name (At_call op (Some w)) = Busy op w.call w.begun
  doing_of name (At_evict evict true) = Idle evict.hand
  doing_of name (At_evict evict false) = Evicting evict

  abbrev pub seated : Seat Op → Worker Op
  seated w = record { name = w.name; number = w.number; doing = doing_of w.name w.at }

  abbrev pub played : Player (Seat Op) → Player (Worker Op)
  played p = record {
    worker = seated p.worker;
    work = p.work;
    left = p.left;
    over = p.over;
    outcomes = p.outcomes;
    waiting = p.waiting;
    noted = p.noted;
  }

  -- what a worker is done with has ended
  abbrev pub HasEnded : At Op → Type 0
  HasEnded New = Unit {0}
  HasEnded (At_call op None) = IsSome (replied meaning op)
  HasEnded (At_call op (Some w)) = Unit {0}
  HasEnded (At_evict evict true) = IsNone (evict_asked evict)
  HasEnded (At_evict evict false) = Unit {0}

  -- the run that the players make
  abbrev pub run_by : Map → State → List Entry → List Placed → List (Player (Seat Op)) → Run Op
  run_by content m settled placed players = run_of content m settled placed (map played players)

  -- what is true of all that a run is kept in; `waiters` has, by word, the worker whose entry waited there last
  pub record IsHeld (content : Map) (m : State) (settled : List Entry) (placed : List Placed) (players : List (Player (Seat Op))) (keys : List ℕ)
      (values : List (Option ℕ)) (waiters : List ℕ) (entries reads : ℕ) : Type 0 where
    pub kept : IsKept meaning (run_by content m settled placed players) (map played players) keys values entries reads
    pub ended : AllByRecursion (λ p. HasEnded p.worker.at) players
    pub last : AreLastFrom waiters 1 players
    pub long : length waiters ≡ words_of meaning.layout
