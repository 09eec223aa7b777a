-- What a step on the table tells the pass that makes it.
use Rattle.std.specs.Prelude.{◌≡◌, ℕ, ◌<◌, ◌≤◌, List, [], ◌++◌, map, Option, Some, None}
use Rattle.std.specs.List.{AllByRecursion}
use Rattle.atomic_table.specs.Seated.{TableId}
use Rattle.atomic_table.specs.Table.{Me, Step}
use Rattle.atomic_table.specs.declared.shared.Seat.{Seat}
use Rattle.flit_words.specs.declared.layouts.Layout.{Layout}
use Rattle.flit_words.specs.Layouts.{Accepted, size_of}
use Rattle.flit_model.specs.Histories.{IsRightAt}
use Rattle.flit_model.specs.Maps.{IsLegal}
use Rattle.flit_model.specs.States.{State}
use Rattle.flit_model.specs.declared.calls.Placed.{Placed}
use Rattle.flit_model.specs.declared.calls.Reply.{Reply}
use Rattle.flit_model.specs.declared.events.Event.{Event}
use Rattle.flit_structure.specs.declared.workers.Doing.{Doing}
use Rattle.flit_structure.specs.declared.workers.Doing.TheVariants.{Idle, Busy, Evicting}
use Rattle.flit_structure.specs.Meanings.{Meaning, MayTake, first_at, asked_by, hand_of, replied, tally}
use Rattle.flit_structure.specs.Lawful.{IsWithin, IsReplied, IsBelowTop, AreSearchesBounded, IsTryBounded}
use Rattle.flit_table.specs.declared.views.Logged.{Logged}
use Rattle.flit_table.specs.declared.views.Origin.{Origin}
use Rattle.flit_table.specs.declared.views.Post.{Post}
use Rattle.flit_table.specs.declared.views.Start.{Start}
use Rattle.flit_table.specs.declared.views.View.{View}
use Rattle.flit_table.specs.Logs.{progress_of, Continues}
use Rattle.flit_table.specs.Orders.{AreInOrder}
use Rattle.flit_table.specs.Views.{content_of, reads_in, updates_seen}
use Rattle.flit_table.specs.Moves.{HasNoneQueued, EntersUnqueued, first_in, over_at, entering, having_moved, having_rested}

module _ {Op : Type 0} (meaning : Meaning Op) where
  -- an operation was told the answer of its event
  abbrev pub IsTold : Doing Op → ℕ → Type 0
  IsTold (Idle hand) told = Unit {0}
  IsTold (Busy op call begun) told = MayTake meaning op told
  IsTold (Evicting evict) told = Unit {0}

  -- searches are excused, and the events of a try are at most so many
  abbrev pub IsTrying : Post Op → Doing Op → Type 0
  IsTrying p (Idle hand) = Unit {0}
  IsTrying p (Busy op call begun) = IsBelowTop (tally meaning op) → AreSearchesBounded meaning.layout.kind p.start (tally meaning op)
      × IsTryBounded meaning.bound p.tried (meaning.asked op)
  IsTrying p (Evicting evict) = Unit {0}

module _ {S Op : Type 0} (meaning : Meaning Op) where
  -- a call that has its reply has its entry, its position or its bound
  abbrev pub IsRepliedIn : Origin S → List Logged → ℕ → ℕ → Doing Op → Type 0
  IsRepliedIn o log name number (Idle hand) = Unit {0}
  IsRepliedIn o log name number (Busy op call begun) = (reply : Reply) → replied meaning op ≡ Some reply →
      (m : State) × IsReplied meaning.layout meaning.room (content_of o) m (progress_of log) name number call (first_at 0 begun) reply
  IsRepliedIn o log name number (Evicting evict) = Unit {0}

  -- the view after an event of a view's worker, when others had made so much more of the log
  pub record Stepped (o : Origin S) (v : View S Op) (e : Event) (told : ℕ) (w : View S Op) : Type 0 where
    pub between : List Logged
    pub reads : List Placed
    -- the view with the event made, and before it is looked whether the item is over
    pub moved : View S Op
    pub moves : moved ≡ having_moved meaning (v.log ++ between) e told v
    pub rests : w ≡ having_rested meaning reads moved
    -- the reads that have their places now: which they are, where they stand, and that all replies are right there
    pub are : map (λ r. r.entry) reads ≡ reads_in (over_at meaning moved.post)
    pub late : AllByRecursion (λ r. first_in moved.post.worker.doing ≤ r.position) reads
    pub right : AllByRecursion (IsRightAt (content_of o) (updates_seen w)) w.placed
    -- what the answer and the operation say
    pub tells : IsTold meaning v.post.worker.doing told
    pub within : (d : Event) → asked_by meaning moved.post.worker ≡ Some d → IsWithin meaning.layout d
    pub replied : IsRepliedIn o moved.log moved.post.worker.name moved.post.worker.number moved.post.worker.doing
    pub trying : IsTrying meaning moved.post moved.post.worker.doing
    -- with one worker the event has queued nothing, nor does what may begin behind it
    pub queued : meaning.layout.workers ≡ 1 → HasNoneQueued meaning moved.post × EntersUnqueued meaning w.post
    pub legal : IsLegal (content_of o) (updates_seen w)
    -- and that the calls of each name stand in order in what has been seen
    pub order : AreInOrder w
    pub hand : ((hand_of meaning w.post.worker).name ≡ w.post.worker.name) × ((hand_of meaning w.post.worker).number ≡ w.post.worker.number)

  -- what an event tells, of the view before, its answer and the view after
  abbrev pub After : Origin S → View S Op → ℕ → View S Op → Type 0
  After o v told w = (e : Event) → asked_by meaning v.post.worker ≡ Some e → Stepped o v e told w

module _ {S Op : Type 0} (meanings : S → Meaning Op) where
  -- the step that begins something, or goes on, with its event; a store is answered 0
  abbrev pub Makes : Start → Step ℕ → Me ℕ (View S Op) → ℕ → Me ℕ (View S Op) → Type 0
  Makes start st me n later = ((o : Origin S) → me.0.origin ≡ Some o → After (meanings o.structure.value) o (entering (meanings o.structure.value) start me.0) n
      later.0) × (later.1 ≡ me.1)

  abbrev pub Stores : Start → Step ℕ → Me ℕ (View S Op) → ℕ → Me ℕ (View S Op) → Type 0
  Stores start st me n later = ((o : Origin S) → me.0.origin ≡ Some o → After (meanings o.structure.value) o (entering (meanings o.structure.value) start me.0)
      0 later.0) × (later.1 ≡ me.1)

  -- the view of a pass that begins what it waits to begin, where it has an origin
  abbrev pub carrying : Option (Origin S) → Start → View S Op → View S Op
  carrying None start v = v
  carrying (Some o) start v = entering (meanings o.structure.value) start v

  abbrev pub carried : Start → View S Op → View S Op
  carried start v = carrying v.origin start v

module _ {S Op : Type 0} where
  -- the last load of a join: the shorter log begins the longer, and the calls of each name stand in order
  abbrev pub Learns : Step ℕ → Me ℕ (View S Op) → ℕ → Me ℕ (View S Op) → Type 0
  Learns st me n later = Continues me.0.note me.0.log × AreInOrder me.0 × (later ≡ me)

-- what callers see of a running structure: where it was opened, and its table
pub record Home (S : Type 0) : Type 0 where
  pub origin : Origin S
  pub table_id : TableId

-- what the structure means that runs there
abbrev pub meaning_of : {S Op : Type 0} → (S → Meaning Op) → Home S → Meaning Op
meaning_of meanings home = meanings home.origin.structure.value

-- the seat is at the table of this structure, and has no slot
pub record Belongs {S Op : Type 0} (home : Home S) (seat : Seat ℕ (View S Op)) : Type 0 where
  pub table : seat.table_id ≡ home.table_id
  pub origin : seat.me.0.origin ≡ Some home.origin
  pub slots : seat.me.1 ≡ []
  pub names : 0 < seat.me.0.names

-- the table of a structure has its words and no slots, and the key says what the structure is
pub record IsTableOf {S : Type 0} (l : Layout) (s : S) (key : Origin S) (table_id : TableId) : Type 0 where
  pub structure : key.structure.value ≡ s
  pub accepted : Accepted l
  pub words : table_id.words ≡ size_of l
  pub slots : table_id.slots ≡ 0
