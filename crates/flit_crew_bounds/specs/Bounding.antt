-- The bounds of a structure: what may follow the machine that an operation is in, and how many events one try makes; and
-- what a structure shows of them.
use Rattle.std.specs.Prelude.{◌≡◌, ◌⊎◌, ℕ, ◌+◌, ◌*◌, ◌<◌, ◌≤◌, Bool, true, false, List, [], length, map, count_by, slice_get, Option, Some, None, Contains}
use Rattle.flit_words.specs.declared.layouts.Layout.{Layout}
use Rattle.flit_words.specs.declared.layouts.Kind.TheVariants.{Tree}
use Rattle.flit_words.specs.Layouts.{words_of}
use Rattle.flit_words.specs.Words.{bare_of, version_of}
use Rattle.flit_model.specs.States.{State}
use Rattle.flit_model.specs.Effects.{after, answer}
use Rattle.flit_model.specs.Settling.{Progress}
use Rattle.flit_model.specs.declared.events.Event.{Event}
use Rattle.flit_model.specs.declared.calls.Entry.{Entry}
use Rattle.flit_model.specs.declared.calls.Tally.{Tally}
use Rattle.flit_place.specs.Tags.{Place, IsSlot}
use Rattle.flit_pv.specs.declared.hands.Hand.{Hand}
use Rattle.flit_pv.specs.Hands.{more}
use Rattle.flit_pv.specs.Exchanges.{HeldExchange}
use Rattle.flit_pv.specs.declared.exchanges.Exchanging.TheVariants.{Ended}
use Rattle.flit_pv.specs.declared.exchanges.Exchanged.{Exchanged}
use Rattle.flit_pv.specs.declared.exchanges.Exchanged.TheVariants.{Won, Lost, Worn}
use Rattle.flit_runs.specs.Workings.{Exchanges}
use Rattle.flit_runs.specs.Rules.{is_exchange}
use Rattle.flit_runs.specs.Soundness.{Needs, IsNext}
use Rattle.flit_structure.specs.Moments.{Opening, Moment, made}
use Rattle.flit_structure.specs.Meanings.{IsServed}
use Rattle.flit_structure.specs.Lawful.{AreSearchesBounded, IsBelowTop, rows_needed}
use Rattle.flit_crew.specs.Machines.{Machine, Works, ToWin, machine_asks, machine_takes, hand_in, has_ended, exchange_part}
use Rattle.flit_crew.specs.Heaps.{Heap, at_word, at_shadow, IsAhead}
use Rattle.flit_crew.specs.Accounts.{inserts_in, AreTight}
use Rattle.flit_crew.specs.Anatomies.{own, op_taken}
use Rattle.flit_crew.specs.Crews.{Crew, Who, Facts}
use Rattle.flit_crew_bounds.specs.Left.{machine_left}
use Rattle.flit_crew_bounds.specs.Counting.{tally_of}

-- what a bound on the events of a try may look at: how the run was opened, the words without their tag bits, and the
-- updates that were made. No event of anybody takes anything from the last.
pub record View : Type 0 where
  pub opening : Opening
  pub words : List ℕ
  pub progress : Progress

abbrev pub view_of : {G : Type 0} → Heap G → View
view_of h = record { opening = h.opening; words = h.words; progress = h.progress }

abbrev pub view_at : {Op : Type 0} → Moment Op → View
view_at M = record { opening = M.opening; words = map bare_of M.state.words; progress = M.progress }

-- the bounds of a structure
pub record Limits (Op : Type 0) : Type 1 where
  pub opens : Opening → Type 0
  -- the most that may follow the machine of an operation, as the words with their tag bits stand now
  pub behind : List ℕ → Op → ℕ
  -- how many events one try makes at most, where that is known; and how many it may make to the end of an operation's
  -- machine, its queue written back
  pub bound : Option ℕ
  pub allowed : View → Op → ℕ

-- what is made is allowed, and no more is allowed than the bound, where there is one
abbrev pub IsWithin : Option ℕ → ℕ → ℕ → Type 0
IsWithin None made allowed = Unit {0}
IsWithin (Some most) made allowed = (made ≤ allowed) × (allowed ≤ most)

-- ---- what happens

-- the same worker at the same call, before and after
pub record IsSame (me you : Who) : Type 0 where
  pub name : you.name ≡ me.name
  pub number : you.number ≡ me.number
  pub call : you.call ≡ me.call
  pub first : you.first ≡ me.first

-- what one event leaves of the heap: a word that doesn't hold what it held was at rest, and is ahead now; and of no kind of
-- updates there are fewer
pub record Passes {G : Type 0} (h k : Heap G) : Type 0 where
  pub opening : k.opening ≡ h.opening
  pub words : (w : ℕ) → (at_word k w ≡ at_word h w) ⊎ ((at_word h w ≡ at_shadow h w) × IsAhead k w)
  pub made : (P : Entry → Bool) → count_by P (made h.progress) ≤ count_by P (made k.progress)

abbrev pub is_lost : Exchanged → Bool
is_lost Won = false
is_lost (Lost found) = true
is_lost (Worn word version) = false

module _ {G Op : Type 0} (c : Crew G Op) (l : Layout) (p : Place) (free : List ℕ) where
  -- an event of an operation's own: what is known before it, and of what the operation is then, after it
  pub record OwnEvent (s : State) (e : Event) (h k : Heap G) (me you : Who) (op : Op) : Type 0 where
    pub asks : machine_asks p (c.anatomy.machine op) ≡ Some e
    pub call : c.anatomy.call op ≡ me.call
    pub served : IsServed l me.call
    pub facts : Facts c l p free h me op (c.anatomy.machine op)
    pub first : me.first ≤ length h.progress.settled
    -- its own rows are rows of the pool that aren't linked, in the places that an insert needs, and so is the row that comes
    -- next
    pub own_rows : (row : ℕ) → Contains (own c.anatomy op) row → Contains free row × (Contains h.given row → ⊥)
    pub tight : AreTight l (hand_in (c.anatomy.machine op)).spare
    pub next_row : (row : ℕ) → slice_get free s.counter ≡ Some row → Contains h.given row → ⊥
    -- each word's slot suits the placement; an exchange that the event ends leaves nothing queued
    pub slots : (word : ℕ) → word < words_of l → IsSlot p.counted l.slots (p.slot word)
    pub unqueued : (exchange : HeldExchange) (how : Exchanged) → machine_takes p free (c.anatomy.machine op) (answer s e) ≡ Works (Exchanges exchange) →
        exchange.at ≡ Ended how → exchange.hand.queue ≡ []
    -- where a PExchange makes an Exchange, all that is depended on is persistent
    pub durable : (exchange : HeldExchange) → c.anatomy.machine op ≡ Works (Exchanges exchange) → is_exchange (Some e) ≡ true → (w v : ℕ) →
        Needs me.needs w v → v ≤ version_of (at_shadow h w)
    -- and until it has won, its new word is bare, with the next version
    pub next : (exchange : HeldExchange) → c.anatomy.machine op ≡ Works (Exchanges exchange) → exchange_part exchange.at ≡ ToWin → IsNext exchange
    pub words : h.words ≡ map bare_of s.words
    pub shadows : h.shadows ≡ s.shadows
    pub kept : c.kept h
    pub knows : c.knows h me op
    pub words_now : k.words ≡ map bare_of (after s e).words
    pub shadows_now : k.shadows ≡ (after s e).shadows
    pub kept_now : c.kept k
    pub knows_now : c.knows k you (op_taken c.anatomy p free op (answer s e))
    pub passes : Passes h k
    pub same : IsSame me you

  -- an event of anybody else, or what else happens to others
  pub record OthersEvent (h k : Heap G) (me you : Who) (op : Op) : Type 0 where
    pub kept : c.kept h
    pub knows : c.knows h me op
    pub kept_now : c.kept k
    pub knows_now : c.knows k you op
    pub passes : Passes h k
    pub same : IsSame me you

  abbrev pub taken_by : State → Event → Op → Machine
  taken_by s e op = machine_takes p free (c.anatomy.machine op) (answer s e)

  abbrev pub left_of : Op → ℕ
  left_of op = machine_left (c.anatomy.machine op)

  -- ---- searches

  -- a search begins where an exchange has ended: it was lost, or, in the tree, a removal was helped by it
  pub record BeginsSearch (m : Machine) (was now : Tally) : Type 0 where
    pub exchange : HeldExchange
    pub how : Exchanged
    pub is : m ≡ Works (Exchanges exchange)
    pub ended : exchange.at ≡ Ended how
    pub tries : now.tries ≡ more was.tries
    pub excuse : (is_lost how ≡ true) ⊎ ((l.kind ≡ Tree) × (now.helped ≡ more was.helped))

  -- ---- what a structure shows

  module _ (limits : Limits Op) where
    -- the events of a try, where they are bounded
    pub record KeepsTries (most : ℕ) : Type 0 where
      -- a call begins, with an empty queue
      pub begins : (h : Heap G) (me : Who) (hand : Hand) → c.kept h → IsServed l me.call → hand.queue ≡ [] →
          c.knows h me (c.anatomy.begun hand me.call) →
          left_of (c.anatomy.begun hand me.call) ≤ limits.allowed (view_of h) (c.anatomy.begun hand me.call)
      -- as many are allowed while a machine runs
      pub runs : (s : State) (e : Event) (h k : Heap G) (me you : Who) (op : Op) → OwnEvent s e h k me you op → has_ended p (taken_by s e op) ≡ false →
          limits.allowed (view_of h) op ≤ limits.allowed (view_of k) (c.anatomy.with_machine op (taken_by s e op))
      -- and as many more from machine to machine as the next one may make; a search that begins is counted from nothing
      pub resumes : (s : State) (e : Event) (h k : Heap G) (me you : Who) (op : Op) → OwnEvent s e h k me you op → has_ended p (taken_by s e op) ≡ true →
          let next = c.anatomy.resumed op (taken_by s e op) in
          (left_of next + limits.allowed (view_of h) op ≤ machine_left (taken_by s e op) + limits.allowed (view_of k) next)
          ⊎ ((left_of next ≤ limits.allowed (view_of k) next) × ((tally_of c.anatomy next).tries ≡ more (hand_in (taken_by s e op)).tally.tries))
      -- others take nothing from it
      pub lasts : (h k : Heap G) (me you : Who) (op : Op) → OthersEvent h k me you op → limits.allowed (view_of h) op ≤ limits.allowed (view_of k) op
      -- and no more are allowed than the bound; inserts have linked no more rows than there are free ones
      pub within : (h : Heap G) (me : Who) (op : Op) → c.kept h → rows_needed l.kind * inserts_in (made h.progress) ≤ length free → c.knows h me op →
          limits.allowed (view_of h) op ≤ most

    abbrev pub AreTriesKept : Option ℕ → Type 0
    AreTriesKept None = Unit {0}
    AreTriesKept (Some most) = KeepsTries most

    pub record KeepsLimits : Type 0 where
      -- no more follows while a machine runs
      pub runs : (s : State) (e : Event) (h k : Heap G) (me you : Who) (op : Op) → OwnEvent s e h k me you op → has_ended p (taken_by s e op) ≡ false →
          limits.behind (after s e).words (c.anatomy.with_machine op (taken_by s e op)) ≤ limits.behind s.words op
      -- and where it has ended, the next one and all that follows it are no more than what might follow
      pub resumes : (s : State) (e : Event) (h k : Heap G) (me you : Who) (op : Op) → OwnEvent s e h k me you op → has_ended p (taken_by s e op) ≡ true →
          let next = c.anatomy.resumed op (taken_by s e op) in
          left_of next + limits.behind (after s e).words next ≤ machine_left (taken_by s e op) + limits.behind s.words op
      -- a search begins only where an exchange was lost or helped
      pub searches : (s : State) (e : Event) (h k : Heap G) (me you : Who) (op : Op) → OwnEvent s e h k me you op → has_ended p (taken_by s e op) ≡ true →
          let now = tally_of c.anatomy (c.anatomy.resumed op (taken_by s e op)) in
          (now.tries ≡ (hand_in (taken_by s e op)).tally.tries) ⊎ BeginsSearch (taken_by s e op) (hand_in (taken_by s e op)).tally now
      pub tries : AreTriesKept limits.bound

    -- ---- what is licensed: searches have their excuses; and the events since the search began and those that the machine
    -- may make still, together, are at most as many as are allowed

    pub record IsLicensed (M : Moment Op) (op : Op) (start : Tally) (made : ℕ) : Type 0 where
      pub searches : IsBelowTop (tally_of c.anatomy op) → AreSearchesBounded l.kind start (tally_of c.anatomy op)
      pub events : IsBelowTop (tally_of c.anatomy op) → IsWithin limits.bound (made + left_of op) (limits.allowed (view_at M) op)
