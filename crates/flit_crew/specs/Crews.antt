-- What a structure says of its operations, and what holds of any number of workers that are at them.
use Rattle.std.specs.Prelude.{◌≡◌, ◌⊎◌, ℕ, ◌^◌, ◌<◌, ◌≤◌, ◌&&◌, Bool, true, false, List, [], ◌∷◌, ◌++◌, length, Option, Some, None, Contains, if◌then◌else◌}
use Rattle.std.specs.List.{AllByRecursion}
use Rattle.flit_words.specs.declared.layouts.Layout.{Layout}
use Rattle.flit_words.specs.Layouts.{words_of, last_row_of, Accepted}
use Rattle.flit_words.specs.Words.{version_of, is_tagged, bare_of}
use Rattle.flit_model.specs.States.{word_at}
use Rattle.flit_model.specs.declared.calls.Call.{Call}
use Rattle.flit_model.specs.declared.calls.Reply.{Reply}
use Rattle.flit_model.specs.declared.calls.Reply.TheVariants.{Yes, No, Found, Full, Worn}
use Rattle.flit_model.specs.declared.calls.Entry.{Entry}
use Rattle.flit_model.specs.Histories.{is_update_by}
use Rattle.flit_place.specs.Tags.{Place}
use Rattle.flit_pv.specs.declared.hands.Hand.{Hand}
use Rattle.flit_pv.specs.declared.exchanges.Exchanging.{Exchanging}
use Rattle.flit_pv.specs.declared.exchanges.Exchanging.TheVariants.{Ready, Tries, TriesBare, WritesBack, Withdraws, Lowers, Ended}
use Rattle.flit_pv.specs.declared.exchanges.Exchanged.{Exchanged}
use Rattle.flit_pv.specs.declared.exchanges.Exchanged.TheVariants.{Won as Exchange_won, Lost, Worn as Exchange_worn}
use Rattle.flit_pv.specs.Stores.{HeldStore}
use Rattle.flit_rows.specs.Shares.{rows_in, IsOnce}
use Rattle.flit_rows.specs.declared.take_row.Took.TheVariants.{None as NoRow}
use Rattle.flit_rows.specs.Taking.{IsRight, IsDecided, take_started}
use Rattle.flit_runs.specs.Workings.{Dependency, Working, Idles, Loads, VLoads, Confirms, Exchanges, VExchanges, Stores, Fences, Completes, Evicts, Task, ToLoad, ToVLoad, ToConfirm, ToExchange, ToVExchange, ToStore, ToFence, ToComplete, ToEvict, asks, started, leaves, confirms, takes_over, words_from, goes_for}
use Rattle.flit_runs.specs.Worlds.{Seen, HasSeen, IsAway, IsNotStoring}
use Rattle.flit_runs.specs.Worlds.{Actor}
use Rattle.flit_runs.specs.Soundness.{IsSound, Needs, owed}
use Rattle.flit_structure.specs.declared.workers.Doing.{Doing}
use Rattle.flit_structure.specs.declared.workers.Doing.TheVariants.{Idle, Busy, Evicting}
use Rattle.flit_structure.specs.declared.workers.Worker.{Worker}
use Rattle.flit_structure.specs.Moments.{Opening, Moment, HaveDifferentNames, update_of}
use Rattle.flit_structure.specs.Meanings.{IsServed, first_at}
use Rattle.flit_structure.specs.Lawful.{is_insert, rows_needed, fits, IsOpening}
use Rattle.flit_crew.specs.Machines.{Machine, Works, Takes, Deed, Fresh, Made, Tags, SeesNoTag, hand_in, hand_of, has_ended, reads_for}
use Rattle.flit_crew.specs.Heaps.{Heap, heap_of, at_shadow, IsOpen, IsForeign, IsWordOf, IsMine}
use Rattle.flit_crew.specs.Fillings.{IsOfRows, FillsAt}
use Rattle.flit_crew.specs.Anatomies.{Anatomy, own, own_in, doing_working, deed}
use Rattle.flit_crew.specs.Accounts.{IsPool, AreTight, IsAny, HasUpdate, Rows, History}

-- what a worker carries that a structure's facts may speak of
pub record Who : Type 0 where
  pub name : ℕ
  pub number : ℕ
  pub call : Call
  -- how many updates were settled at the call's first event
  pub first : ℕ
  pub needs : List Dependency
  pub seen : List Seen
  pub private : List ℕ

-- the same worker, who depends on more and has seen more; fewer words may be private
pub record IsFurther (me you : Who) : Type 0 where
  pub name : you.name ≡ me.name
  pub number : you.number ≡ me.number
  pub call : you.call ≡ me.call
  pub first : you.first ≡ me.first
  pub needs : (w v : ℕ) → Needs me.needs w v → Needs you.needs w v
  pub seen : (w raw : ℕ) → HasSeen me.seen w raw → HasSeen you.seen w raw
  pub private : (w : ℕ) → IsAway me.private w → IsAway you.private w

-- ---- a structure: its operations; what is kept true of the heap; what others' and its own changes of the heap leave;
-- and what an operation knows

pub record Crew (G Op : Type 0) : Type 1 where
  pub anatomy : Anatomy Op
  pub kept : Heap G → Type 0
  -- by one who has this name, or by nobody
  pub later : Option ℕ → Heap G → Heap G → Type 0
  pub knows : Heap G → Who → Op → Type 0

module _ {Op : Type 0} (A : Anatomy Op) where
  -- what its exchange does, where it is won: the update that waits then, and the rows that are linked
  abbrev pub effect_if : Bool → Who → Option Entry
  effect_if effects me = if effects then Some (update_of me.name me.number me.call) else None

  abbrev pub effect_of : Op → Who → Option Entry
  effect_of op me = effect_if (A.effects op) me

  abbrev pub links_of : Op → List ℕ
  links_of op = if A.effects op && is_insert (A.call op) then rows_in (hand_in (A.machine op)).spare else []

-- ---- those outside

-- Whoever else writes foreign rows stands in the world of machines as one worker that rests: the words of these rows are
-- private to it, and it owes and depends on what it has stored.
pub record Stranger : Type 0 where
  pub hand : Hand
  pub needs : List Dependency
  pub private : List ℕ

abbrev pub stranger_of : Stranger → Actor
stranger_of g = record { at = Idles g.hand; needs = g.needs; seen = []; private = g.private }

-- a word of a foreign row
pub record IsForeignWord (l : Layout) (free : List ℕ) (o : Opening) (w : ℕ) : Type 0 where
  pub row : ℕ
  pub foreign : IsForeign l free o row
  pub word : IsWordOf l row w

-- its private words are the words of the foreign rows, all of them
pub record IsOutside (l : Layout) (free : List ℕ) (o : Opening) (opening : IsOpening l o) (g : Stranger) : Type 0 where
  pub foreign : AllByRecursion (IsForeignWord l free o) g.private
  pub all : (row w : ℕ) → Contains opening.free row → (Contains free row → ⊥) → IsWordOf l row w → Contains g.private w

-- ---- all workers

abbrev pub who_of : ℕ → ℕ → Call → Option ℕ → Actor → Who
who_of name number call begun g = record {
  name = name;
  number = number;
  call = call;
  first = first_at 0 begun;
  needs = g.needs;
  seen = g.seen;
  private =
      g.private;
}

module _ {G Op : Type 0} (c : Crew G Op) (l : Layout) (p : Place) (free : List ℕ) where
  abbrev anatomy : Anatomy Op
  anatomy = c.anatomy

  -- the reply Full comes after a TakeRow that found none, and the reply Worn of a version at the limit that is persistent
  -- or depended on
  abbrev pub IsLimited : Heap G → Who → Hand → Reply → Type 0
  IsLimited h me hand Yes = Unit {0}
  IsLimited h me hand No = Unit {0}
  IsLimited h me hand (Found value) = Unit {0}
  IsLimited h me hand (Full ticket) = IsDecided free (rows_needed l.kind) hand (NoRow ticket)
  IsLimited h me hand (Worn word version) = (l.limit ≤ version) × ((version ≤ version_of (at_shadow h word)) ⊎ Needs me.needs word version)

  abbrev pub deed_if : Bool → Deed
  deed_if made = if made then Made else Fresh

  -- a reply that may be given with this hand: it fits the call, and is Yes of an update exactly where one was made
  pub record MayReply (h : Heap G) (me : Who) (hand : Hand) (op : Op) : Type 0 where
    pub fits : fits me.call (anatomy.reply op) ≡ true
    pub made : deed anatomy op ≡ deed_if (is_update_by me.call (anatomy.reply op))
    pub limited : IsLimited h me hand (anatomy.reply op)

  -- a PrivateStore fills words of own rows
  pub record Fills (h : Heap G) (op : Op) (m : HeldStore) : Type 0 where
    pub own : AllByRecursion (IsOfRows l (own anatomy op)) (words_from (anatomy.storing op).first (anatomy.storing op).values)
    pub limit : m.drafts.limit ≡ l.limit
    pub filled : FillsAt l h (anatomy.storing op) m.at m

  -- an exchange that is under way isn't worn: that shows where it is started
  abbrev pub IsNotWorn : Exchanged → Type 0
  IsNotWorn Exchange_won = Unit {0}
  IsNotWorn (Lost found) = Unit {0}
  IsNotWorn (Exchange_worn word version) = ⊥

  abbrev pub ExchangesAt : Exchanging → Type 0
  ExchangesAt Ready = Unit {0}
  ExchangesAt (Tries slot) = Unit {0}
  ExchangesAt TriesBare = Unit {0}
  ExchangesAt WritesBack = Unit {0}
  ExchangesAt Withdraws = Unit {0}
  ExchangesAt (Lowers slot found) = Unit {0}
  ExchangesAt (Ended how) = IsNotWorn how

  -- a TakeRow stands right, and fills as many places as an insert needs
  abbrev pub StandsRight : Machine → Type 0
  StandsRight (Works w) = Unit {0}
  StandsRight (Takes m) = IsRight free m × (m.need ≡ rows_needed l.kind)

  -- what is true of a machine, whatever the structure
  abbrev pub WorkingFacts : Heap G → Who → Op → Working → Type 0
  WorkingFacts h me op (Idles hand) = Unit {0}
  WorkingFacts h me op (Loads m) = Unit {0}
  WorkingFacts h me op (VLoads m) = Unit {0}
  WorkingFacts h me op (Confirms m) = Unit {0}
  WorkingFacts h me op (Exchanges m) = ExchangesAt m.at
  WorkingFacts h me op (VExchanges m) = Unit {0}
  WorkingFacts h me op (Stores m) = Fills h op m
  WorkingFacts h me op (Fences m) = Unit {0}
  WorkingFacts h me op (Completes m) = MayReply h me m.fence.hand op
  WorkingFacts h me op (Evicts m) = Unit {0}

  abbrev pub Facts : Heap G → Who → Op → Machine → Type 0
  Facts h me op (Works w) = WorkingFacts h me op w
  Facts h me op (Takes m) = StandsRight (Takes m)

  -- an operation under way
  pub record IsBusy (h : Heap G) (g : Actor) (name number : ℕ) (op : Op) (call : Call) (begun : Option ℕ) : Type 0 where
    pub same_call : anatomy.call op ≡ call
    pub served : IsServed l call
    pub first : first_at 0 begun ≤ length h.progress.settled
    -- until its first event it is as it began, and nothing is private
    pub waits : begun ≡ None → (hand : Hand) × (op ≡ anatomy.begun hand call) × (g.private ≡ [])
    pub facts : Facts h (who_of name number call begun g) op (anatomy.machine op)
    pub going : has_ended p (anatomy.machine op) ≡ false
    pub update : HasUpdate h name number call (first_at 0 begun) (deed anatomy op)
    pub knows : c.knows h (who_of name number call begun g) op

  -- a worker that is the only one: no tag shows to it, it has seen none, and none of its loads has queued a word
  pub record IsAlone (g : Actor) : Type 0 where
    pub machine : SeesNoTag p g.at
    pub queued : (hand_of g.at).tally.queued ≡ 0
    pub seen : p.counted ≡ false → AllByRecursion (λ x. is_tagged x.raw ≡ false) g.seen

  abbrev pub IsDoing : Heap G → Actor → ℕ → ℕ → Doing Op → Type 0
  IsDoing h g name number (Idle hand) = (g.private ≡ []) × (hand.queue ≡ [])
  IsDoing h g name number (Busy op call begun) = IsBusy h g name number op call begun
  IsDoing h g name number (Evicting m) = (g.private ≡ []) × (m.hand.queue ≡ []) × (m.word < words_of l)

  -- a worker beside its machine
  pub record Acts (h : Heap G) (u : Worker Op) (g : Actor) : Type 0 where
    pub at : g.at ≡ doing_working anatomy u.doing
    pub name : (hand_of g.at).name ≡ u.name
    pub number : (hand_of g.at).number ≡ u.number
    pub least : 1 ≤ u.name
    pub most : u.name ≤ l.workers
    -- it loads and exchanges words that everybody may reach; its private words are words of its own rows, not linked
    pub reached : AllByRecursion (IsOpen l free h) (goes_for g.at)
    pub reading : AllByRecursion (IsOpen l free h) (reads_for g.at)
    pub mine : AllByRecursion (IsMine l free h (own_in anatomy u.doing)) g.private
    -- one that owes nothing and stores nothing has no private words
    pub published : owed g.at ≡ [] → IsNotStoring g.at → g.private ≡ []
    pub alone : l.workers ≡ 1 → IsAlone g
    pub doing : IsDoing h g u.name u.number u.doing

  abbrev pub AllAct : Heap G → List (Worker Op) → List Actor → Type 0
  AllAct h [] [] = Unit {0}
  AllAct h [] (g ∷ gs) = ⊥
  AllAct h (u ∷ us) [] = ⊥
  AllAct h (u ∷ us) (g ∷ gs) = Acts h u g × AllAct h us gs

  pub record Holds (M : Moment Op) : Type 0 where
    pub given : List ℕ
    pub ghost : G
    pub actors : List Actor
    pub opening : IsOpening l M.opening
    pub pool_is : free ≡ M.opening.free
    pub stranger : Stranger
    pub outside : IsOutside l free M.opening opening stranger
    pub accepted : Accepted l
    pub pool : IsPool l free
    pub words : length M.state.words ≡ words_of l
    pub slots : length M.state.slots ≡ l.slots
    pub sound : IsSound p (λ word. false) (record { state = M.state; workers = stranger_of stranger ∷ actors })
    -- where tags are bits, each is of an exchange under way
    pub tagged : p.counted ≡ false → (word : ℕ) → is_tagged (word_at M.state word) ≡ true →
        IsAny (λ g. Tags word (bare_of (word_at M.state word)) g.at) actors
    pub kept : c.kept (heap_of M given ghost)
    pub acts : AllAct (heap_of M given ghost) M.workers actors
    pub rows : Rows anatomy l free M.state.counter (heap_of M given ghost) M.workers
    pub history : History anatomy l free (heap_of M given ghost) M.workers
    pub different : HaveDifferentNames M.workers

  -- ---- a call goes on where its machine has ended: it starts its next one, and where that ends without an event, the
  -- next one

  -- a word of one of the hand's rows, which isn't private yet
  pub record IsSpareWord (me : Who) (hand : Hand) (w : ℕ) : Type 0 where
    pub within : w < words_of l
    pub row : ℕ
    pub own : Contains (rows_in hand.spare) row
    pub word : IsWordOf l row w
    pub away : IsAway me.private w

  abbrev pub MayBegin : Heap G → Who → Hand → Task → Type 0
  MayBegin h me hand (ToLoad w) = IsOpen l free h w
  MayBegin h me hand (ToVLoad w) = IsOpen l free h w
  MayBegin h me hand (ToConfirm w raw) = HasSeen me.seen w raw
  MayBegin h me hand (ToExchange w old value limit) = IsOpen l free h w × (value < 2 ^ 32) × (limit ≡ l.limit) × Needs me.needs w (version_of old)
  MayBegin h me hand (ToVExchange w old value limit) = ⊥
  MayBegin h me hand (ToStore first values limit) = AllByRecursion (IsSpareWord me hand) (words_from first values) × AllByRecursion (λ v. v < 2 ^ 32) values
      × (limit ≡ l.limit)
  MayBegin h me hand ToFence = Unit {0}
  MayBegin h me hand ToComplete = Unit {0}
  MayBegin h me hand (ToEvict w) = ⊥

  -- the operation that begins it: it has what it fills, or the reply that it may give
  abbrev pub IsFor : Heap G → Who → Hand → Task → Op → Type 0
  IsFor h me hand (ToLoad w) op = Unit {0}
  IsFor h me hand (ToVLoad w) op = Unit {0}
  IsFor h me hand (ToConfirm w raw) op = Unit {0}
  IsFor h me hand (ToExchange w old value limit) op = Unit {0}
  IsFor h me hand (ToVExchange w old value limit) op = Unit {0}
  IsFor h me hand (ToStore first values limit) op = anatomy.storing op ≡ record { first = first; values = values }
  IsFor h me hand ToFence op = Unit {0}
  IsFor h me hand ToComplete op = MayReply h me hand op
  IsFor h me hand (ToEvict w) op = Unit {0}

  -- its machine has ended, and what it confirmed is depended on
  abbrev pub left : Who → Working → Who
  left me w = record me { needs = confirms w ++ me.needs }

  -- more words are private from the start of a task on
  abbrev pub taking_over : Who → Task → Who
  taking_over me task = record me { private = takes_over task ++ me.private }

  -- a hand of the same worker with the same queue and the same ticket, whose tally has the same loads
  pub record IsAlike (was now : Hand) : Type 0 where
    pub name : now.name ≡ was.name
    pub number : now.number ≡ was.number
    pub queue : now.queue ≡ was.queue
    pub ticket : now.ticket ≡ was.ticket
    pub queued : now.tally.queued ≡ was.tally.queued

  pub data Goes (h : Heap G) : Who → Hand → Op → Type 0 where
    starts : (me : Who) (hand : Hand) (task : Task) (op : Op) → MayBegin h me hand task → anatomy.machine op ≡ Works (started task hand) →
        has_ended p (anatomy.machine op) ≡ false → anatomy.call op ≡ me.call → IsFor h me hand task op → c.knows h (taking_over me task) op →
        Goes h me hand op
    -- it takes rows, where one is missing and its ticket isn't past the end
    draws : (me : Who) (hand : Hand) (op : Op) → anatomy.machine op ≡ Takes (take_started free hand (rows_needed l.kind)) →
        has_ended p (anatomy.machine op) ≡ false → anatomy.call op ≡ me.call → c.knows h me op → Goes h me hand op
    passes : (me : Who) (hand : Hand) (task : Task) (op : Op) → MayBegin h me hand task → takes_over task ≡ [] → asks p (started task hand) ≡ None →
        Goes h (left me (started task hand)) (leaves (started task hand)) op → Goes h me hand op
    changes : (me : Who) (hand now : Hand) (op : Op) → IsAlike hand now → Goes h me now op → Goes h me hand op

  -- the own rows of an operation are rows of the pool, and of the layout, that aren't linked, each of them once; its machine's hand has places
  -- for what an insert needs, and beyond these no row
  pub record OwnsRows (h : Heap G) (op : Op) (m : Machine) : Type 0 where
    pub pool : (row : ℕ) → Contains (own anatomy op) row → Contains free row
    pub fit : (row : ℕ) → Contains (own anatomy op) row → (1 ≤ row) × (row ≤ last_row_of l)
    pub unlinked : (row : ℕ) → Contains (own anatomy op) row → Contains h.given row → ⊥
    pub once : IsOnce (own anatomy op)
    pub tight : AreTight l (hand_in m).spare

  -- between two machines of a call no row changes its owner, and no update its place
  pub record IsCoherent (was now : Op) : Type 0 where
    pub own : own anatomy now ≡ own anatomy was
    pub deed : deed anatomy now ≡ deed anatomy was
    pub tight : AreTight l (hand_in (anatomy.machine was)).spare → AreTight l (hand_in (anatomy.machine now)).spare
