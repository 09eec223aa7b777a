-- What each step does to the view that makes it: a worker begins a call or an evict, makes an event, and is done with its
-- item where that was the last.
use Rattle.std.specs.Prelude.{◌≡◌, ℕ, ◌+◌, ◌<◌, List, [], ◌∷◌, ◌++◌, length, Option, Some, None}
use Rattle.flit_words.specs.Layouts.{words_of}
use Rattle.flit_model.specs.declared.events.Event.{Event}
use Rattle.flit_model.specs.declared.calls.Call.{Call}
use Rattle.flit_model.specs.declared.calls.Placed.{Placed}
use Rattle.flit_model.specs.declared.calls.Reply.{Reply}
use Rattle.flit_model.specs.declared.calls.Tally.{Tally}
use Rattle.flit_pv.specs.declared.hands.Hand.{Hand}
use Rattle.flit_pv.specs.declared.evicts.Evict.{Evict}
use Rattle.flit_pv.specs.Evicts.{evict_started, evict_asked}
use Rattle.flit_structure.specs.declared.workers.Doing.{Doing}
use Rattle.flit_structure.specs.declared.workers.Doing.TheVariants.{Idle, Busy, Evicting}
use Rattle.flit_structure.specs.Moments.{busy, sweeper}
use Rattle.flit_structure.specs.Meanings.{Meaning, MayStart, first_at, goes_on, hand_of, effect_by, replied, tally}
use Rattle.flit_structure.specs.Lawful.{events_of_try}
use Rattle.flit_table.specs.declared.views.Logged.{Logged}
use Rattle.flit_table.specs.declared.views.Made.{Made}
use Rattle.flit_table.specs.declared.views.Made.TheVariants.{Answered, Evicted}
use Rattle.flit_table.specs.declared.views.Post.{Post}
use Rattle.flit_table.specs.declared.views.Start.{Start}
use Rattle.flit_table.specs.declared.views.Start.TheVariants.{Go, Begin, Sweep}
use Rattle.flit_table.specs.declared.views.View.{View}
use Rattle.flit_table.specs.Logs.{settled_in, logged_by}

-- the item that a call makes when it has its reply, or an evict when it asks for nothing more
abbrev pub call_over : ℕ → ℕ → Call → Option Reply → List Made
call_over name number call None = []
call_over name number call (Some reply) = Answered (record { worker = name; number = number; call = call; reply = reply }) ∷ []

abbrev pub evict_over : ℕ → Evict → Option Event → List Made
evict_over name evict None = Evicted name evict.word ∷ []
evict_over name evict (Some e) = []

module _ {Op : Type 0} where
  -- how many updates were settled at the first event of a worker's call
  abbrev pub first_in : Doing Op → ℕ
  first_in (Idle hand) = 0
  first_in (Busy op call begun) = first_at 0 begun
  first_in (Evicting evict) = 0

  -- what a worker is at after its item
  abbrev pub rests_after_call : Doing Op → Hand → Option Reply → Doing Op
  rests_after_call doing hand None = doing
  rests_after_call doing hand (Some reply) = Idle hand

  abbrev pub rests_after_evict : Doing Op → Hand → Option Event → Doing Op
  rests_after_evict doing hand None = Idle hand
  rests_after_evict doing hand (Some e) = doing

module _ {Op : Type 0} (meaning : Meaning Op) where
  -- the post of a worker that begins a call or an evict, or goes on; and when it may
  abbrev pub entered : Start → Post Op → Post Op
  entered Go p = p
  entered (Begin call) p = record {
    worker = busy p.worker.name (p.worker.number + 1) (meaning.begun (hand_of meaning p.worker) call) call None;
    start = (hand_of meaning p.worker).tally;
    tried = 0;
  }
  entered (Sweep word) p = record p { worker = sweeper p.worker.name p.worker.number (evict_started (hand_of meaning p.worker) word) }

  abbrev pub MayEnter : Start → Post Op → Type 0
  MayEnter Go p = Unit {0}
  MayEnter (Begin call) p = (hand : Hand) × (p.worker.doing ≡ Idle hand) × MayStart meaning.layout hand call
  MayEnter (Sweep word) p = (hand : Hand) × (p.worker.doing ≡ Idle hand) × (word < words_of meaning.layout)

  -- the tally of a worker so far
  abbrev pub tally_in : Doing Op → Tally
  tally_in (Idle hand) = hand.tally
  tally_in (Busy op call begun) = tally meaning op
  tally_in (Evicting evict) = evict.hand.tally

  -- no event of a post's worker has queued a word; and so it is whatever the worker begins there, or where it goes on
  abbrev pub HasNoneQueued : Post Op → Type 0
  HasNoneQueued p = (tally_in p.worker.doing).queued ≡ 0

  abbrev pub EntersUnqueued : Post Op → Type 0
  EntersUnqueued p = (start : Start) → MayEnter start p → HasNoneQueued (entered start p)

  -- the number of an operation's events since its last search began, after its event
  abbrev pub tried_after : ℕ → Doing Op → ℕ → ℕ
  tried_after tried (Idle hand) told = tried
  tried_after tried (Busy op call begun) told = events_of_try tried (tally meaning op) (tally meaning (meaning.taken op told))
  tried_after tried (Evicting evict) told = tried

  -- the post after its worker's event, when so many updates were settled before
  abbrev pub moved_post : ℕ → ℕ → Post Op → Post Op
  moved_post settled told p = record {
    worker = record p.worker { doing = goes_on meaning settled p.worker.doing told };
    start = p.start;
    tried = tried_after p.tried p.worker.doing told;
  }

  -- the item that is over when a worker is at this, and what the worker is at then
  abbrev pub over : ℕ → ℕ → Doing Op → List Made
  over name number (Idle hand) = []
  over name number (Busy op call begun) = call_over name number call (replied meaning op)
  over name number (Evicting evict) = evict_over name evict (evict_asked evict)

  abbrev pub rests : Doing Op → Doing Op
  rests (Idle hand) = Idle hand
  rests (Busy op call begun) = rests_after_call (Busy op call begun) (meaning.finished op) (replied meaning op)
  rests (Evicting evict) = rests_after_evict (Evicting evict) evict.hand (evict_asked evict)

  abbrev pub rested_post : Post Op → Post Op
  rested_post p = record p { worker = record p.worker { doing = rests p.worker.doing } }

  abbrev pub over_at : Post Op → List Made
  over_at p = over p.worker.name p.worker.number p.worker.doing

module _ {S Op : Type 0} (meaning : Meaning Op) where
  -- the view that begins something; the view whose worker has made an event, where the table had this log; and the view
  -- whose worker is done with its item, where it is, with the reads that have their places now
  abbrev pub entering : Start → View S Op → View S Op
  entering start v = record v { post = entered meaning start v.post }

  abbrev pub having_moved : List Logged → Event → ℕ → View S Op → View S Op
  having_moved log e told v = record v {
    post = moved_post meaning (length (settled_in log)) told v.post;
    log = log ++ logged_by e told (effect_by meaning v.post.worker);
    events = v.post.worker.name ∷ v.events;
  }

  abbrev pub having_rested : List Placed → View S Op → View S Op
  having_rested reads v = record v {
    post = rested_post meaning v.post;
    mine = v.mine ++ over_at meaning v.post;
    placed = v.placed ++ reads;
  }
