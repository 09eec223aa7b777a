-- The searches begun and the events of a try, counted for one worker along the turns of a run.
use Rattle.std.specs.Prelude.{◌≡◌, ℕ, ◌-◌, ◌==◌, List, [], ◌∷◌, length, Option, Some, None, slice_get, if◌then◌else◌}
use Rattle.flit_model.specs.declared.calls.Tally.{Tally}
use Rattle.flit_model.specs.declared.events.Event.{Event}
use Rattle.flit_pv.specs.Hands.{no_tally}
use Rattle.flit_structure.specs.declared.workers.Doing.{Doing}
use Rattle.flit_structure.specs.declared.workers.Doing.TheVariants.{Idle, Busy, Evicting}
use Rattle.flit_structure.specs.Meanings.{Meaning, tally}
use Rattle.flit_structure.specs.Lawful.{AreSearchesBounded, IsTryBounded, events_of_try}
use Rattle.flit_sched.specs.declared.runs.Turn.{Turn}
use Rattle.flit_sched.specs.declared.runs.Turn.TheVariants.{Event as Event_turn, Idle as Idle_turn}
use Rattle.flit_sched.specs.Runs.{Part, Run}
use Rattle.flit_sched.specs.Turns.{IsTurn, entered, doing_after, tally_in}
use Rattle.flit_histories.specs.Following.{Given}

-- the tally that a worker had when it was last at no item, and how many events of its call came since the last search
-- of the call began, or since the call's start
pub record Count : Type 0 where
  pub start : Tally
  pub made : ℕ

abbrev pub no_count : Count
no_count = record { start = no_tally; made = 0 }

-- a worker that is at no item starts from the tally that it has
abbrev pub count_at : {Op : Type 0} → Doing Op → Count → Count
count_at (Idle hand) c = record { start = hand.tally; made = 0 }
count_at (Busy op call begun) c = c
count_at (Evicting evict) c = c

module _ {Op : Type 0} (meaning : Meaning Op) where
  -- an event of a call is counted, from 0 where a search begins by it
  abbrev pub made_after : Doing Op → Doing Op → ℕ → ℕ
  made_after (Idle hand) later n = n
  made_after (Busy op call begun) later n = events_of_try n (tally meaning op) (tally_in meaning later)
  made_after (Evicting evict) later n = n

  abbrev pub count_made : Run Op → Event → Part Op → Count → Count
  count_made r e p c = let u = entered meaning p in let k = count_at p.worker.doing c in
      record { start = k.start; made = made_after u.doing (doing_after meaning u r.state (length r.progress.settled) e) k.made }

  abbrev pub count_in : Run Op → Event → Option (Part Op) → Count → Count
  count_in r e None c = c
  count_in r e (Some p) c = count_made r e p c

  -- what a turn of the worker makes of its count
  abbrev pub count_turned : ℕ → Run Op → Turn → Count → Count
  count_turned worker r (Event_turn e told) c = count_in r e (slice_get r.parts (worker - 1)) c
  count_turned worker r Idle_turn c = c

  -- these turns lead from one run to another, and the worker's count from one to another
  abbrev pub Counts : ℕ → Run Op → Count → List Given → Run Op → Count → Type 0
  Counts worker r c [] next d = (next ≡ r) × (d ≡ c)
  Counts worker r c (t ∷ ts) next d = (between : Run Op) × IsTurn meaning r t.worker t.turn between
      × Counts worker between (if t.worker == worker then count_turned worker r t.turn c else c) ts next d

  -- as long as no count of its tally is at its top, the searches that its call has begun are within their bound, and so
  -- are the events of its try
  abbrev pub IsTryWithin : Count → Doing Op → Type 0
  IsTryWithin c (Idle hand) = IsTryBounded meaning.bound c.made None
  IsTryWithin c (Busy op call begun) = IsTryBounded meaning.bound c.made (meaning.asked op)
  IsTryWithin c (Evicting evict) = Unit {0}

  pub record IsWithinBounds (c : Count) (d : Doing Op) : Type 0 where
    pub searches : AreSearchesBounded meaning.layout.kind c.start (tally_in meaning d)
    pub events : IsTryWithin c d
