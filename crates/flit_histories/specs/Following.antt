-- Turns that are given one after another, and the run that they lead to.
use Rattle.std.specs.Prelude.{◌≡◌, ℕ, ◌==◌, ◌&&◌, Bool, false, List, [], ◌∷◌, count_by}
use Rattle.flit_structure.specs.Meanings.{Meaning}
use Rattle.flit_structure.specs.Lawful.{is_persist}
use Rattle.flit_sched.specs.declared.runs.Turn.{Turn}
use Rattle.flit_sched.specs.declared.runs.Turn.TheVariants.{Event as Event_turn, Idle as Idle_turn}
use Rattle.flit_sched.specs.Runs.{Run}
use Rattle.flit_sched.specs.Turns.{IsTurn}

-- a turn that was given to a worker, from 1 on, and what it did
pub record Given : Type 0 where
  pub worker : ℕ
  pub turn : Turn

-- a turn made a write-back
abbrev pub has_persisted : Turn → Bool
has_persisted (Event_turn e told) = is_persist e
has_persisted Idle_turn = false

-- how many of the turns that were given to a worker made one
abbrev pub persists_by : ℕ → List Given → ℕ
persists_by worker turns = count_by (λ t. (t.worker == worker) && has_persisted t.turn) turns

-- these turns, with what their workers did, lead from one run to another
abbrev pub Follows : {Op : Type 0} → Meaning Op → Run Op → List Given → Run Op → Type 0
Follows meaning r [] next = next ≡ r
Follows {Op} meaning r (t ∷ ts) next = (between : Run Op) × IsTurn meaning r t.worker t.turn between × Follows meaning between ts next
