-- A turn: the worker begins its next item where it is at none, makes the event that it asks for, and is done with its
-- item where that was the last event.
use Rattle.std.specs.Prelude.{◌≡◌, ◌⊎◌, ℕ, ◌+◌, ◌-◌, ◌<◌, ◌≤◌, ◌++◌, Bool, true, false, List, [], ◌∷◌, length, Option, Some, None, slice_get, slice_set}
use Rattle.flit_model.specs.Maps.{Map}
use Rattle.flit_model.specs.States.{State}
use Rattle.flit_model.specs.Histories.{is_read_by}
use Rattle.flit_model.specs.Effects.{after, answer}
use Rattle.flit_model.specs.Settling.{Progress, progress_after}
use Rattle.flit_model.specs.declared.calls.Call.{Call}
use Rattle.flit_model.specs.declared.calls.Entry.{Entry}
use Rattle.flit_model.specs.declared.calls.Item.{Item}
use Rattle.flit_model.specs.declared.calls.Item.TheVariants.{Call as Call_item, Evict as Evict_item}
use Rattle.flit_model.specs.declared.calls.Outcome.{Outcome}
use Rattle.flit_model.specs.declared.calls.Outcome.TheVariants.{Replied}
use Rattle.flit_model.specs.declared.calls.Placed.{Placed}
use Rattle.flit_model.specs.declared.calls.Reply.{Reply}
use Rattle.flit_model.specs.declared.calls.Tally.{Tally}
use Rattle.flit_model.specs.declared.events.Event.{Event}
use Rattle.flit_pv.specs.declared.hands.Hand.{Hand}
use Rattle.flit_pv.specs.declared.evicts.Evict.{Evict}
use Rattle.flit_pv.specs.declared.evicts.Evicting.{Evicting as Evict_at}
use Rattle.flit_pv.specs.declared.evicts.Evicting.TheVariants.{Reads, WritesBack, Done}
use Rattle.flit_pv.specs.Evicts.{evict_started, evict_asked}
use Rattle.flit_structure.specs.declared.workers.Doing.{Doing}
use Rattle.flit_structure.specs.declared.workers.Doing.TheVariants.{Idle, Busy, Evicting}
use Rattle.flit_structure.specs.declared.workers.Worker.{Worker}
use Rattle.flit_structure.specs.Moments.{idle, busy, sweeper}
use Rattle.flit_structure.specs.Meanings.{Meaning, first_at, goes_on, asked_by, effect_by, replied, tally}
use Rattle.flit_structure.specs.Lawful.{IsReplied}
use Rattle.flit_sched.specs.declared.turning.End.{End}
use Rattle.flit_sched.specs.declared.turning.End.TheVariants.{NotYet, Evicted, Replied as Replied_end}
use Rattle.flit_sched.specs.declared.runs.Turn.{Turn}
use Rattle.flit_sched.specs.declared.runs.Turn.TheVariants.{Event as Event_turn, Idle as Idle_turn}
use Rattle.flit_sched.specs.Runs.{Part, Run, IsPart}
use Rattle.flit_sched.specs.Reads.{AreReadsOf}

-- it has no item left, or has made as many events as its stop says
abbrev pub IsOut : {Op : Type 0} → Part Op → Type 0
IsOut p = (length p.items ≤ p.over) ⊎ (p.left ≡ Some 0)

-- how many events a stop leaves after one more
abbrev pub left_after : Option ℕ → Option ℕ
left_after None = None
left_after (Some n) = Some (n - 1)

-- how many events an Evict has to go
abbrev pub evict_to_go : Evict_at → ℕ
evict_to_go Reads = 2
evict_to_go (WritesBack raw) = 1
evict_to_go Done = 0

-- how many items a worker of a run has that aren't over
abbrev pub left_of : {Op : Type 0} → Option (Part Op) → ℕ
left_of None = 0
left_of (Some p) = length p.items - p.over

abbrev pub left_at : {Op : Type 0} → Run Op → ℕ → ℕ
left_at r worker = left_of (slice_get r.parts (worker - 1))

-- how many items are over, what became of each, and the completed read, where an event ends the item so
abbrev pub over_ended : ℕ → End → ℕ
over_ended over NotYet = over
over_ended over Evicted = over + 1
over_ended over (Replied_end call first reply) = over + 1

abbrev pub outcomes_ended : List (Option Outcome) → ℕ → End → List (Option Outcome)
outcomes_ended outcomes over NotYet = outcomes
outcomes_ended outcomes over Evicted = outcomes
outcomes_ended outcomes over (Replied_end call first reply) = slice_set outcomes over (Some (Replied reply))

abbrev pub read_if : Bool → Call → ℕ → Reply → Option (Call × ℕ × Reply)
read_if true call first reply = Some (call, first, reply)
read_if false call first reply = None

abbrev pub read_ended : End → Option (Call × ℕ × Reply)
read_ended NotYet = None
read_ended Evicted = None
read_ended (Replied_end call first reply) = read_if (is_read_by call reply) call first reply

module _ {Op : Type 0} (meaning : Meaning Op) where
  -- a worker that is idle begins this item
  abbrev pub starts : ℕ → ℕ → Hand → Option Item → Worker Op
  starts name number hand None = idle name number hand
  starts name number hand (Some (Call_item call)) = busy name (number + 1) (meaning.begun hand call) call None
  starts name number hand (Some (Evict_item word)) = sweeper name number (evict_started hand word)

  abbrev pub enters : Worker Op → Doing Op → Option Item → Worker Op
  enters u (Idle hand) next = starts u.name u.number hand next
  enters u (Busy op call begun) next = u
  enters u (Evicting evict) next = u

  -- a worker at its item, the next one where it is at none
  abbrev pub entered : Part Op → Worker Op
  entered p = enters p.worker p.worker.doing (slice_get p.items p.over)

  -- the reply that it has, and the hand of a worker whose item is over
  abbrev pub reply_in : Doing Op → Option Reply
  reply_in (Idle hand) = None
  reply_in (Busy op call begun) = replied meaning op
  reply_in (Evicting evict) = None

  abbrev pub hand_replied : Op → Option Reply → Option Hand
  hand_replied op None = None
  hand_replied op (Some reply) = Some (meaning.finished op)

  abbrev pub hand_evicted : Evict → Option Event → Option Hand
  hand_evicted evict None = Some evict.hand
  hand_evicted evict (Some e) = None

  abbrev pub hand_over : Doing Op → Option Hand
  hand_over (Idle hand) = None
  hand_over (Busy op call begun) = hand_replied op (replied meaning op)
  hand_over (Evicting evict) = hand_evicted evict (evict_asked evict)

  -- what a worker is at, and how many of its items are over, when its item may be over
  abbrev pub rests : Doing Op → Option Hand → Doing Op
  rests doing None = doing
  rests doing (Some hand) = Idle hand

  abbrev pub over_after : ℕ → Option Hand → ℕ
  over_after over None = over
  over_after over (Some hand) = over + 1

  -- a call that has its reply has this outcome
  abbrev pub outcomes_after : List (Option Outcome) → ℕ → Option Reply → List (Option Outcome)
  outcomes_after outcomes over None = outcomes
  outcomes_after outcomes over (Some reply) = slice_set outcomes over (Some (Replied reply))

  -- how an event ends the item of a worker that is at this after it
  abbrev pub end_replied : Call → Option ℕ → Option Reply → End
  end_replied call begun None = NotYet
  end_replied call begun (Some reply) = Replied_end call (first_at 0 begun) reply

  abbrev pub end_evicted : Option Event → End
  end_evicted None = Evicted
  end_evicted (Some e) = NotYet

  abbrev pub end_in : Doing Op → End
  end_in (Idle hand) = NotYet
  end_in (Busy op call begun) = end_replied call begun (replied meaning op)
  end_in (Evicting evict) = end_evicted (evict_asked evict)

  -- what the worker is at after its event, before it is done with its item
  abbrev pub doing_after : Worker Op → State → ℕ → Event → Doing Op
  doing_after u m settled e = goes_on meaning settled u.doing (answer m e)

  abbrev pub rested : Worker Op → Doing Op → Worker Op
  rested u doing = record u { doing = rests doing (hand_over doing) }

  abbrev pub part_after : Part Op → Worker Op → Doing Op → Part Op
  part_after p u doing = record {
    worker = rested u doing;
    items = p.items;
    left = left_after p.left;
    over = over_after p.over (hand_over doing);
    outcomes = outcomes_after p.outcomes p.over (reply_in doing);
  }

  -- the tally of a worker so far
  abbrev pub tally_in : Doing Op → Tally
  tally_in (Idle hand) = hand.tally
  tally_in (Busy op call begun) = tally meaning op
  tally_in (Evicting evict) = evict.hand.tally

  -- what the reply says, where the worker's call has it
  abbrev pub IsRepliedBy : Map → State → Progress → ℕ → ℕ → Call → Option ℕ → Option Reply → Type 0
  IsRepliedBy content m progress name number call begun None = Unit {0}
  IsRepliedBy content m progress name number call begun (Some reply) =
      IsReplied meaning.layout meaning.room content m progress name number call (first_at 0 begun) reply

  abbrev pub IsRepliedIn : Map → State → Progress → ℕ → ℕ → Doing Op → Type 0
  IsRepliedIn content m progress name number (Idle hand) = Unit {0}
  IsRepliedIn content m progress name number (Busy op call begun) =
      IsRepliedBy content m progress name number call begun (replied meaning op)
  IsRepliedIn content m progress name number (Evicting evict) = Unit {0}

  -- what a worker has to go at its item
  abbrev pub to_go_in : State → Doing Op → ℕ
  to_go_in m (Idle hand) = 0
  to_go_in m (Busy op call begun) = meaning.to_go m op
  to_go_in m (Evicting evict) = evict_to_go evict.at

  -- the completed read that a worker has made: its call, how many updates were settled at its first event, its reply
  abbrev pub read_replied : Call → Option ℕ → Option Reply → Option (Call × ℕ × Reply)
  read_replied call begun None = None
  read_replied call begun (Some reply) = read_if (is_read_by call reply) call (first_at 0 begun) reply

  abbrev pub read_in : Doing Op → Option (Call × ℕ × Reply)
  read_in (Idle hand) = None
  read_in (Busy op call begun) = read_replied call begun (replied meaning op)
  read_in (Evicting evict) = None

  -- the reads that its reply adds
  abbrev pub AreReadsReplied : Map → List Entry → ℕ → ℕ → Call → Option ℕ → Option Reply → List Placed → Type 0
  AreReadsReplied before updates name number call begun None reads = reads ≡ []
  AreReadsReplied before updates name number call begun (Some reply) reads =
      AreReadsOf before updates (first_at 0 begun) (record { worker = name; number = number; call = call; reply = reply }) reads

  abbrev pub AreReadsIn : Map → List Entry → ℕ → ℕ → Doing Op → List Placed → Type 0
  AreReadsIn before updates name number (Idle hand) reads = reads ≡ []
  AreReadsIn before updates name number (Busy op call begun) reads =
      AreReadsReplied before updates name number call begun (replied meaning op) reads
  AreReadsIn before updates name number (Evicting evict) reads = reads ≡ []

module _ {Op : Type 0} (meaning : Meaning Op) where
  -- the worker makes the event that it asks for, which answers `told`, and the run is another after it
  pub record Turned (r : Run Op) (worker : ℕ) (e : Event) (told : ℕ) (next : Run Op) : Type 0 where
    pub before : List (Part Op)
    pub part : Part Op
    pub behind : List (Part Op)
    pub is : IsPart r worker before part behind
    pub on : ¬ (IsOut part)
    pub asks : asked_by meaning (entered meaning part) ≡ Some e
    pub answers : told ≡ answer r.state e
    pub content : next.content ≡ r.content
    pub state : next.state ≡ after r.state e
    pub progress : next.progress ≡ progress_after r.progress r.state e (effect_by meaning (entered meaning part))
    pub parts : let u = entered meaning part in
        next.parts ≡ before ++ part_after meaning part u (doing_after meaning u r.state (length r.progress.settled) e) ∷ behind
    pub reads : List Placed
    pub placed : next.placed ≡ r.placed ++ reads
    pub reads_are : let u = entered meaning part in
        AreReadsIn meaning r.content next.progress.settled u.name u.number (doing_after meaning u r.state (length r.progress.settled) e) reads

  -- the worker is out, and nothing changes
  pub record StaysOut (r : Run Op) (worker : ℕ) (next : Run Op) : Type 0 where
    pub before : List (Part Op)
    pub part : Part Op
    pub behind : List (Part Op)
    pub is : IsPart r worker before part behind
    pub out : IsOut part
    pub same : next ≡ r

  -- what a worker of the run has to go at the item that it is at or begins next
  abbrev pub to_go_of : State → Option (Part Op) → ℕ
  to_go_of m None = 0
  to_go_of m (Some p) = to_go_in meaning m (entered meaning p).doing

  abbrev pub to_go_at : Run Op → ℕ → ℕ
  to_go_at r worker = to_go_of r.state (slice_get r.parts (worker - 1))

  -- where a turn's event gives a call its reply, the state after it is as the reply says
  abbrev pub AreRepliesRight : Run Op → ℕ → Turn → Run Op → Type 0
  AreRepliesRight r worker (Event_turn e told) next = (before : List (Part Op)) (p : Part Op) (behind : List (Part Op)) → IsPart r worker before p behind →
      let u = entered meaning p in
      IsRepliedIn meaning r.content next.state next.progress u.name u.number (doing_after meaning u r.state (length r.progress.settled) e)
  AreRepliesRight r worker Idle_turn next = Unit {0}

  -- by its event a worker has one item less left, or as many, and less to go at this one
  abbrev pub GoesDown : Run Op → ℕ → Turn → Run Op → Type 0
  GoesDown r worker (Event_turn e told) next =
      (left_at next worker < left_at r worker) ⊎ ((left_at next worker ≡ left_at r worker) × (to_go_at next worker < to_go_at r worker))
  GoesDown r worker Idle_turn next = Unit {0}

  -- the runs that a run comes to by turns of one worker alone
  pub data Alone (worker : ℕ) (r : Run Op) : Run Op → Type 0 where
    no_turn : Alone worker r r
    one_more : {n o : Run Op} (e : Event) (told : ℕ) → Alone worker r n → Turned n worker e told o → Alone worker r o

  -- what a turn answers, and the run after it
  abbrev pub IsTurn : Run Op → ℕ → Turn → Run Op → Type 0
  IsTurn r worker (Event_turn e told) next = Turned r worker e told next
  IsTurn r worker Idle_turn next = StaysOut r worker next
