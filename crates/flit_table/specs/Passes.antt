-- What a pass is, what its calls ask of it, and how they come out.
use Rattle.std.specs.Prelude.{◌≡◌, ℕ, ◌+◌, ◌-◌, ◌<◌, ◌≤◌, List, Bool, true, false, Option, Some, None, IsSome}
use Rattle.atomic_table.specs.declared.shared.Seat.{Seat}
use Rattle.flit_words.specs.Layouts.{words_of}
use Rattle.flit_model.specs.declared.calls.Call.{Call}
use Rattle.flit_model.specs.declared.calls.Reply.{Reply}
use Rattle.flit_model.specs.declared.calls.Tally.{Tally}
use Rattle.flit_pv.specs.declared.hands.Hand.{Hand as A_hand}
use Rattle.flit_structure.specs.declared.workers.Doing.TheVariants.{Idle}
use Rattle.flit_structure.specs.declared.workers.Worker.{Worker}
use Rattle.flit_structure.specs.Meanings.{Meaning, MayStart, IsServed, replied}
use Rattle.flit_table.specs.declared.views.Origin.{Origin}
use Rattle.flit_table.specs.declared.views.View.{View}
use Rattle.flit_table.specs.declared.views.Post.{Post}
use Rattle.flit_table.specs.declared.views.Start.{Start}
use Rattle.flit_table.specs.declared.views.Start.TheVariants.{Go}
use Rattle.flit_table.specs.declared.passes.Rest.{Rest}
use Rattle.flit_table.specs.declared.passes.Rest.TheVariants.{Hand, Ended, Stopped}
use Rattle.flit_table.specs.declared.passes.Holder.{Holder}
use Rattle.flit_table.specs.declared.passes.Pass.{Pass}
use Rattle.flit_table.specs.declared.passes.Within.{Within}
use Rattle.flit_table.specs.declared.passes.Within.TheVariants.{Done, Stopped as Stopped_call}
use Rattle.flit_table.specs.Moves.{MayEnter, EntersUnqueued, tally_in, entered, entering}
use Rattle.flit_table.specs.Steps.{Belongs, Home, meaning_of}
use Rattle.flit_table.specs.Views.{workers_of, posts_of, keeper, heir, both}
use Rattle.flit_table.specs.Logs.{Continues, shorter_log, longer_log}
use Rattle.flit_table.specs.Orders.{AreInOrder}
use Rattle.flit_table.specs.Rule.{first_view}
use Rattle.flit_table.specs.Calls.{Runs, Ends, IsUnderWayAt, IsAtCall, Evicts, IsCut}

module _ {Op : Type 0} where
  -- a worker at nothing, with its hand
  pub record IsIdle (u : Worker Op) (begun : ℕ) (hand : A_hand) : Type 0 where
    pub doing : u.doing ≡ Idle hand
    pub name : hand.name ≡ u.name
    pub number : hand.number ≡ u.number
    pub calls : begun ≡ u.number

  -- a pass that is stopped, and what it waits to begin
  abbrev pub is_stopped : Rest Op → Bool
  is_stopped (Hand hand) = false
  is_stopped (Ended op) = false
  is_stopped (Stopped tally start) = true

  abbrev pub waits_in : Rest Op → Start
  waits_in (Hand hand) = Go
  waits_in (Ended op) = Go
  waits_in (Stopped tally start) = start

module _ {S Op : Type 0} where
  -- the view of a pass: what it knows; its name, how many names it owns, and how many calls were begun through it alone
  abbrev pub view_of : Pass S Op → View S Op
  view_of pass = pass.held.seat.me.0

  abbrev pub own_name : Pass S Op → ℕ
  own_name pass = pass.held.name

  abbrev pub own_names : Pass S Op → ℕ
  own_names pass = pass.held.names

  abbrev pub own_calls : Pass S Op → ℕ
  own_calls pass = pass.held.calls

  -- whether it is stopped, and what it waits to begin then
  abbrev pub has_stopped : Pass S Op → Bool
  has_stopped pass = is_stopped pass.held.rest

  abbrev pub IsFree : Pass S Op → Type 0
  IsFree pass = has_stopped pass ≡ false

  abbrev pub IsStopped : Pass S Op → Type 0
  IsStopped pass = has_stopped pass ≡ true

  abbrev pub waits_to : Pass S Op → Start
  waits_to pass = waits_in pass.held.rest

  -- a pass that has given away so many names; and the pass that has these
  pub record HasGiven (give : ℕ) (was now : Pass S Op) : Type 0 where
    pub view : view_of now ≡ keeper give (view_of was)
    pub name : own_name now ≡ own_name was
    pub names : own_names now ≡ own_names was - give
    pub calls : own_calls now ≡ own_calls was
    pub free : IsFree now

  pub record IsGiven (give : ℕ) (was now : Pass S Op) : Type 0 where
    pub view : view_of now ≡ heir give (view_of was)
    pub name : own_name now ≡ own_name was + (own_names was - give)
    pub names : own_names now ≡ give
    pub calls : own_calls now ≡ 0
    pub free : IsFree now

module _ {Op : Type 0} (meaning : Meaning Op) where
  -- the hand of a pass that isn't stopped: that of the operation that ended last, where it is kept
  abbrev pub hand_kept : Rest Op → Option A_hand
  hand_kept (Hand hand) = Some hand
  hand_kept (Ended op) = Some (meaning.finished op)
  hand_kept (Stopped tally start) = None

  -- a pass isn't stopped, and an operation that is kept has its reply
  abbrev pub IsRested : Rest Op → Type 0
  IsRested (Hand hand) = Unit {0}
  IsRested (Ended op) = IsSome (replied meaning op)
  IsRested (Stopped tally start) = ⊥

  -- a call may begin where a pass rests; and the operation that stands there then
  abbrev pub MayBeginIn : Rest Op → Call → Type 0
  MayBeginIn (Hand hand) call = MayStart meaning.layout hand call
  MayBeginIn (Ended op) call = IsSome (replied meaning op) × MayStart meaning.layout (meaning.finished op) call
  MayBeginIn (Stopped tally start) call = ⊥

  abbrev pub begun_in : Rest Op → Call → Rest Op
  begun_in (Hand hand) call = Ended (meaning.begun hand call)
  begun_in (Ended op) call = Ended (meaning.begun (meaning.finished op) call)
  begun_in (Stopped tally start) call = Stopped tally start

  -- a worker that is stopped, under way or before its call's first event
  pub record IsHalted (p : Post Op) (begun : ℕ) (so_far : Tally) (start : Start) : Type 0 where
    pub may : MayEnter meaning start p
    pub calls : begun ≡ (entered meaning start p).worker.number
    pub tally : so_far ≡ tally_in meaning (entered meaning start p).worker.doing

  -- what the worker of a pass is at
  abbrev pub IsAt : Post Op → ℕ → Rest Op → Type 0
  IsAt p calls (Hand hand) = IsIdle p.worker calls hand
  IsAt p calls (Ended op) = IsSome (replied meaning op) × IsIdle p.worker calls (meaning.finished op)
  IsAt p calls (Stopped tally start) = IsHalted p calls tally start

module _ {S Op : Type 0} (meaning : Meaning Op) where
  -- the view of a pass with what it waits to begin
  abbrev pub waiting_view : Pass S Op → View S Op
  waiting_view pass = entering meaning (waits_to pass) (view_of pass)

  -- a pass that has taken another in, with what that waits to begin. Of what the two have seen, one begins the other; and in
  -- what it has seen now the calls of each name of both stand in order
  pub record HasTaken (other was now : Pass S Op) : Type 0 where
    pub view : view_of now ≡ both (view_of was) (waiting_view other)
    pub name : own_name now ≡ own_name was
    pub names : own_names now ≡ own_names was
    pub calls : own_calls now ≡ own_calls was
    pub stopped : has_stopped now ≡ has_stopped was
    pub waits : waits_to now ≡ waits_to was
    pub order : AreInOrder (view_of now)
    pub seen : Continues (shorter_log (view_of was).log (view_of other).log) (longer_log (view_of was).log (view_of other).log)

  -- a pass whose worker is at rest, with names of the layout
  pub record IsHeld (home : Home S) (h : Holder S Op) : Type 0 where
    pub belongs : Belongs home h.seat
    pub name : h.name ≡ h.seat.me.0.name
    pub names : h.names ≡ h.seat.me.0.names
    pub worker : h.seat.me.0.post.worker.name ≡ h.seat.me.0.name
    pub least : 1 ≤ h.seat.me.0.name
    pub most : h.seat.me.0.name + h.seat.me.0.names ≤ meaning.layout.workers + 1
    pub at : IsAt meaning h.seat.me.0.post h.calls h.rest
    -- with one worker nothing is queued, by what the pass waits to begin neither
    pub queued : meaning.layout.workers ≡ 1 → EntersUnqueued meaning (entered meaning (waits_in h.rest) h.seat.me.0.post)

  -- a pass, which was h, has begun a call: its operation stands where the pass rests, has made so many events, and has
  -- this reply or none
  pub record IsCalling (home : Home S) (start : Start) (call : Call) (h k : Holder S Op) (made : ℕ) (reply : Option Reply) : Type 0 where
    pub belongs : Belongs home k.seat
    pub name : k.name ≡ h.name
    pub names : k.names ≡ h.names
    pub calls : k.calls ≡ h.calls + 1
    pub op : Op
    pub is : k.rest ≡ Ended op
    pub at : IsUnderWayAt meaning home.origin start call h.seat.me.0 k.seat.me.0 op made reply

  -- it has gone on by at most so many events
  abbrev pub HasGoneOn : Home S → Start → Call → Holder S Op → Holder S Op → ℕ → ℕ → Option (Reply × ℕ) → Type 0
  HasGoneOn home start call h k made steps None = IsCalling home start call h k (made + steps) None
  HasGoneOn home start call h k made steps (Some r) = (r.1 ≤ steps) × IsCalling home start call h k (made + r.1) (Some r.0)

-- the pass that has all names, as a structure is opened
pub record IsFirst {S Op : Type 0} (meaning : Meaning Op) (o : Origin S) (pass : Pass S Op) : Type 0 where
  pub view : view_of pass ≡ first_view meaning o
  pub name : own_name pass ≡ 1
  pub names : own_names pass ≡ meaning.layout.workers
  pub calls : own_calls pass ≡ 0
  pub free : IsFree pass

-- here `meanings` says what each structure means, and `home` is a running structure
module _ {S Op : Type 0} (meanings : S → Meaning Op) (home : Home S) where
  abbrev its_meaning : Meaning Op
  its_meaning = meaning_of meanings home

  -- a pass belongs to the running structure; it isn't stopped either; and it may make this call
  abbrev pub BelongsTo : Pass S Op → Type 0
  BelongsTo pass = IsHeld its_meaning home pass.held

  pub record MayWork (pass : Pass S Op) : Type 0 where
    pub belongs : BelongsTo pass
    pub free : IsFree pass

  pub record MayCall (pass : Pass S Op) (call : Call) : Type 0 where
    pub works : MayWork pass
    pub served : IsServed its_meaning.layout call
    pub count : own_calls pass < 4294967295

  pub record MayEvict (pass : Pass S Op) (word : ℕ) : Type 0 where
    pub works : MayWork pass
    pub within : word < words_of its_meaning.layout

  -- what a pass keeps: its unfinished operations and idle hands, and those of the passes joined into it, with the call
  -- that it was stopped in before its first event
  abbrev pub kept_by : Pass S Op → List (Worker Op)
  kept_by pass = workers_of (posts_of (waiting_view its_meaning pass))

  -- how a call came out that began at the view v and may make so many events: it has its reply, and the pass is free; or
  -- it has made them all, and the pass is stopped and keeps the operation, which has begun where it may make an event
  abbrev pub IsAnswered : Call → ℕ → View S Op → Pass S Op → Within → Type 0
  IsAnswered call steps v pass (Done reply made) = (made ≤ steps) × IsFree pass × ((op : Op) × Ends its_meaning home.origin call v (view_of pass) op reply made)
  IsAnswered call steps v pass Stopped_call = IsStopped pass × (0 < steps → waits_to pass ≡ Go)
      × ((op : Op) × Runs its_meaning home.origin call v (waiting_view its_meaning pass) op steps)

  -- an evict that may make so many events: it made both, or it was stopped exactly where it may not make two
  abbrev pub IsEvicted : ℕ → ℕ → View S Op → Pass S Op → Bool → Type 0
  IsEvicted word steps v pass true = (2 ≤ steps) × IsFree pass × Evicts its_meaning home.origin word v (view_of pass)
  IsEvicted word steps v pass false = (steps < 2) × IsStopped pass × (waits_to pass ≡ Go) × IsCut its_meaning home.origin word steps v (view_of pass)

  -- what a loader of the structure's operations knows: the seat belongs here, and the call that began at a view is at this
  -- operation, after so many events, and waits to begin nothing
  pub record IsLoadedAt (run : Call × View S Op) (seat : Seat ℕ (View S Op)) (op : Op) (made : ℕ) : Type 0 where
    pub belongs : Belongs home seat
    pub at : IsAtCall its_meaning home.origin Go run.0 run.1 seat.me.0 op made
