-- Turns as they are asked for by lines, each so many of one worker or all until it is out; and the events that are shown
-- of them.
use Rattle.std.specs.Prelude.{◌≡◌, ◌⊎◌, ℕ, zero, suc, ◌<◌, ◌≤◌, ◌++◌, Bool, true, false, List, [], ◌∷◌, Option, Some, None, map, length}
use Rattle.std.specs.List.{AllByRecursion}
use Rattle.flit_report.specs.declared.content.Shown.{Shown}
use Rattle.flit_structure.specs.Meanings.{Meaning}
use Rattle.flit_sched.specs.declared.runs.Turn.{Turn}
use Rattle.flit_sched.specs.declared.runs.Turn.TheVariants.{Event as Event_turn, Idle as Idle_turn}
use Rattle.flit_sched.specs.Runs.{Run}
use Rattle.flit_sched.specs.Turns.{IsOut, left_at, to_go_at}
use Rattle.flit_sched.specs.Views.{OfWorker}
use Rattle.flit_histories.specs.Following.{Given, Follows}

-- the turns that a line asks for: those of one worker, from 1 on, at most so many, or all until it is out
pub record Line : Type 0 where
  pub worker : ℕ
  pub most : Option ℕ

-- what is shown of a turn, and of turns: the events
abbrev pub shown_by : ℕ → Turn → List Shown
shown_by worker (Event_turn e told) = record { worker = worker; event = e; answer = told } ∷ []
shown_by worker Idle_turn = []

abbrev pub shown_of : List Given → List Shown
shown_of [] = []
shown_of (t ∷ ts) = shown_by t.worker t.turn ++ shown_of ts

-- they are shown where they are wanted
abbrev pub shown_if : Bool → List Given → List Shown
shown_if true ts = shown_of ts
shown_if false ts = []

-- by this turn this worker made an event
abbrev pub IsEvent : Turn → Type 0
IsEvent (Event_turn e told) = Unit {0}
IsEvent Idle_turn = ⊥

abbrev pub IsEventBy : ℕ → Given → Type 0
IsEventBy worker t = (t.worker ≡ worker) × IsEvent t.turn

module _ {Op : Type 0} (meaning : Meaning Op) where
  -- these turns lead from one run to another, and by each the worker made an event
  pub record AreMadeBy (worker : ℕ) (r : Run Op) (given : List Given) (next : Run Op) : Type 0 where
    pub follows : Follows meaning r given next
    pub own : AllByRecursion (IsEventBy worker) given

  -- so many events are enough for a line: all that it asks for, or the worker is out
  abbrev pub AreEnough : Option ℕ → ℕ → Run Op → ℕ → Type 0
  AreEnough None made next worker = OfWorker next worker IsOut
  AreEnough (Some most) made next worker = (made ≡ most) ⊎ ((made ≤ most) × OfWorker next worker IsOut)

  -- these turns are those of a line
  pub record IsLine (l : Line) (r : Run Op) (given : List Given) (next : Run Op) : Type 0 where
    pub made : AreMadeBy l.worker r given next
    pub enough : AreEnough l.most (length given) next l.worker

  -- these turns are those of lines, one line after another
  abbrev pub FollowsLines : Run Op → List Line → List Given → Run Op → Type 0
  FollowsLines r [] given next = (given ≡ []) × (next ≡ r)
  FollowsLines r (l ∷ ls) given next = (between : Run Op) × (front : List Given) × (back : List Given) × (given ≡ front ++ back)
      × IsLine l r front between × FollowsLines between ls back next

  -- the turns of a line are given, and shown behind what was shown before
  abbrev pub ShowsLine : Line → Run Op → Run Op → Bool → List Shown → List Shown → Type 0
  ShowsLine l r next kept before after = (given : List Given) × IsLine l r given next × (after ≡ before ++ shown_if kept given)

  abbrev pub ShowsLines : List Line → Run Op → Run Op → Bool → List Shown → List Shown → Type 0
  ShowsLines ls r next kept before after = (given : List Given) × FollowsLines r ls given next × (after ≡ before ++ shown_if kept given)

  -- a worker makes so many events, which are shown
  abbrev pub ShowsSome : ℕ → ℕ → Run Op → Run Op → Bool → List Shown → List Shown → Type 0
  ShowsSome worker made r next kept before after = (given : List Given) × AreMadeBy worker r given next × (length given ≡ made)
      × (after ≡ before ++ shown_if kept given)

  -- it makes one, or it is out
  abbrev pub ShowsOne : ℕ → Bool → Run Op → Run Op → Bool → List Shown → List Shown → Type 0
  ShowsOne worker true r next kept before after = ShowsSome worker 1 r next kept before after
  ShowsOne worker false r next kept before after = ShowsSome worker 0 r next kept before after × OfWorker next worker IsOut

  -- where it makes one, it has one item less left, or as many, and less to go at this one
  abbrev pub FallsBy : ℕ → Bool → Run Op → Run Op → Type 0
  FallsBy worker true r next =
      (left_at next worker < left_at r worker)
      ⊎ ((left_at next worker ≡ left_at r worker) × (to_go_at meaning next worker < to_go_at meaning r worker))
  FallsBy worker false r next = Unit {0}

-- the lines that a trace's turn lines ask for
abbrev pub turn_lines : List (ℕ × ℕ) → List Line
turn_lines turns = map (λ t. record { worker = t.0; most = Some t.1 }) turns

-- workers 1, 2 and so on up to this one, each until it is out
abbrev pub last_lines : ℕ → List Line
last_lines zero = []
last_lines (suc n) = last_lines n ++ record { worker = suc n; most = None } ∷ []
