-- What is true of every run that is reached: its moment holds, and what is kept of its workers, keys and reads agrees.
use Rattle.std.specs.Prelude.{◌≡◌, ◌≢◌, ℕ, ◌+◌, ◌^◌, ◌<◌, ◌≤◌, List, [], ◌∷◌, ◌++◌, length, map, take, Option, Some, None, IsSome, is_some, slice_get}
use Rattle.std.specs.List.{AllByRecursion, Contains}
use Rattle.std.specs.FinMap as map_of
use Rattle.flit_words.specs.declared.limits.TheConstants.{MOST_CALLS}
use Rattle.flit_model.specs.Maps.{Map, map_after_all}
use Rattle.flit_model.specs.Histories.{IsRightAt}
use Rattle.flit_model.specs.States.{State}
use Rattle.std.specs.List.Sorted.{IsStrictlyIncreasing}
use Rattle.flit_model.specs.Settling.{Progress}
use Rattle.flit_model.specs.declared.calls.Entry.{Entry}
use Rattle.flit_model.specs.declared.calls.Item.{Item}
use Rattle.flit_model.specs.declared.calls.Item.TheVariants.{Call as Call_item, Evict as Evict_item}
use Rattle.flit_model.specs.declared.calls.Placed.{Placed}
use Rattle.flit_model.specs.declared.events.Event.{Event}
use Rattle.flit_model.specs.declared.events.Event.TheVariants.{Load, ReadTag, Raise, Lower, Exchange, Persist, Store, Draw}
use Rattle.flit_pv.specs.Evicts.{evict_asked}
use Rattle.flit_structure.specs.declared.workers.Doing.{Doing}
use Rattle.flit_structure.specs.declared.workers.Worker.{Worker}
use Rattle.flit_structure.specs.declared.workers.Doing.TheVariants.{Idle, Busy, Evicting}
use Rattle.flit_structure.specs.Meanings.{Meaning, key_of, replied}
use Rattle.flit_sched.specs.declared.players.Player.{Player}
use Rattle.flit_sched.specs.declared.players.Waiting.{Waiting}
use Rattle.flit_sched.specs.Runs.{Part, Run, moment_of}
use Rattle.flit_sched.specs.Openings.{IsRightItem, is_call}

-- the key of an item that is a call is one of the keys
abbrev pub IsKeyed : List ℕ → Item → Type 0
IsKeyed keys (Call_item call) = Contains keys (key_of call)
IsKeyed keys (Evict_item word) = Unit {0}

-- the values ahead that have an entry, each kept with the worker whose entry it is
abbrev pub pairs_waiting : Option Waiting → List (ℕ × Entry)
pairs_waiting None = []
pairs_waiting (Some w) = (w.word, w.entry) ∷ []

abbrev pub waiting_of : {W : Type 0} → List (Player W) → List (ℕ × Entry)
waiting_of [] = []
waiting_of (p ∷ ps) = pairs_waiting p.waiting ++ waiting_of ps

abbrev pub progress_of : {W : Type 0} → List Entry → List (Player W) → Progress
progress_of settled players = record { settled = settled; waiting = map_of.from_entries (waiting_of players) }

abbrev pub part_of : {Op : Type 0} → Player (Worker Op) → Part Op
part_of p = record {
  worker = p.worker;
  items = p.work.items.items;
  left = p.left;
  over = p.over;
  outcomes = p.outcomes.items;
}

-- the run that the players make
abbrev pub run_of : {Op : Type 0} → Map → State → List Entry → List Placed → List (Player (Worker Op)) → Run Op
run_of content m settled placed players = record {
  content = content;
  state = m;
  progress = progress_of settled players;
  placed = placed;
  parts = map part_of players;
}

-- the call under way is counted
abbrev pub one_if_busy : {Op : Type 0} → Doing Op → ℕ
one_if_busy (Idle hand) = 0
one_if_busy (Busy op call begun) = 1
one_if_busy (Evicting evict) = 0

-- how many items the players have, and how many of these are over
abbrev pub items_of : {W : Type 0} → List (Player W) → ℕ
items_of [] = 0
items_of (p ∷ ps) = length p.work.items.items + items_of ps

abbrev pub over_of : {W : Type 0} → List (Player W) → ℕ
over_of [] = 0
over_of (p ∷ ps) = p.over + over_of ps

module _ {Op : Type 0} (meaning : Meaning Op) where
  -- a worker that isn't idle is at its next item, and asks for an event; of a call it is noted what its key had in the
  -- map when it made its first event
  abbrev pub IsAtItem : Map → List Entry → Option Item → Option ℕ → Doing Op → Type 0
  IsAtItem content settled item noted (Idle hand) = Unit {0}
  IsAtItem content settled item noted (Busy op call None) = ⊥
  IsAtItem content settled item noted (Busy op call (Some n)) = (item ≡ Some (Call_item call)) × (replied meaning op ≡ None)
      × (n ≤ length settled) × (noted ≡ map_of.get (map_after_all content (take n settled)) (key_of call))
  IsAtItem content settled item noted (Evicting evict) = (word : ℕ) × (item ≡ Some (Evict_item word)) × IsSome (evict_asked evict)

  pub record IsKeptPlayer (content : Map) (settled : List Entry) (keys : List ℕ) (name : ℕ) (p : Player (Worker Op)) : Type 0 where
    pub named : p.worker.name ≡ name
    pub items : AllByRecursion (IsRightItem meaning.layout) p.work.items.items
    pub keyed : AllByRecursion (IsKeyed keys) p.work.items.items
    pub over : p.over ≤ length p.work.items.items
    pub outcomes : length p.outcomes.items ≡ length p.work.items.items
    pub kinds : map is_some p.outcomes.items ≡ map is_call p.work.items.items
    pub number : p.worker.number ≤ p.over + one_if_busy p.worker.doing
    pub waits : AllByRecursion (λ w. (w.1.worker ≡ name) × Contains keys (key_of w.1.call)) (pairs_waiting p.waiting)
    pub at : IsAtItem content settled (slice_get p.work.items.items p.over) p.noted p.worker.doing

  abbrev pub AreKeptFrom : Map → List Entry → List ℕ → ℕ → List (Player (Worker Op)) → Type 0
  AreKeptFrom content settled keys name [] = Unit {0}
  AreKeptFrom content settled keys name (p ∷ ps) = IsKeptPlayer content settled keys name p × AreKeptFrom content settled keys (name + 1) ps

-- no word stands twice among some pairs
abbrev pub AreApart : List (ℕ × Entry) → Type 0
AreApart [] = Unit {0}
AreApart (w ∷ ws) = AllByRecursion (λ v. v.0 ≢ w.0) ws × AreApart ws

-- each word and shadow has 64 bits
abbrev pub AllRaw : List ℕ → Type 0
AllRaw ws = AllByRecursion (λ w. w < 2 ^ 64) ws

-- the numbers of an event have 64 bits
abbrev pub IsRawEvent : Event → Type 0
IsRawEvent (Load word) = Unit {0}
IsRawEvent (ReadTag slot) = Unit {0}
IsRawEvent (Raise slot) = Unit {0}
IsRawEvent (Lower slot) = Unit {0}
IsRawEvent (Exchange word from to) = to < 2 ^ 64
IsRawEvent (Persist word kept) = kept < 2 ^ 64
IsRawEvent (Store word to) = to < 2 ^ 64
IsRawEvent Draw = Unit {0}

-- the keys, in order, with what the map has at each
pub record IsBook (keys : List ℕ) (values : List (Option ℕ)) (now : Map) : Type 0 where
  pub rising : IsStrictlyIncreasing keys
  pub same : length values ≡ length keys
  pub is : map (λ k. map_of.get now k) keys ≡ values

module _ {Op : Type 0} (meaning : Meaning Op) where
  pub record IsKept (r : Run Op) (players : List (Player (Worker Op))) (keys : List ℕ) (values : List (Option ℕ)) (entries reads : ℕ) : Type 0 where
    pub words : List ℕ
    pub free : List ℕ
    pub holds : meaning.holds (moment_of r words free)
    pub workers : length players ≡ meaning.layout.workers
    pub each : AreKeptFrom meaning r.content r.progress.settled keys 1 players
    -- no two values ahead are at one word
    pub apart : AreApart (waiting_of players)
    pub words_raw : AllRaw r.state.words
    pub shadows_raw : AllRaw r.state.shadows
    pub book : IsBook keys values (map_after_all r.content r.progress.settled)
    -- there is room for an entry and a read of each call
    pub most : items_of players ≤ MOST_CALLS
    pub entries_room : items_of players + length players ≤ entries
    pub reads_room : items_of players ≤ reads
    pub placed : length r.placed ≤ over_of players
    -- each read's reply is right at its position
    pub right : AllByRecursion (IsRightAt r.content r.progress.settled) r.placed
