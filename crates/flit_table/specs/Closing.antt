-- The end of a running structure: what its words and the view of a pass say, and what is told of them.
use Rattle.std.specs.Prelude.{◌≡◌, ℕ, ◌+◌, ◌≤◌, ◌==◌, ◌&&◌, Bool, true, false, List, ◌++◌, map, Contains, slice_index, Some, if◌then◌else◌}
use Rattle.std.specs.FinMap as map_of
use Rattle.std.specs.List.{AllByRecursion, list_any, range_with_len}
use Rattle.atomic_table.specs.Table as table
use Rattle.flit_model.specs.declared.found.Image.{Image}
use Rattle.flit_words.specs.declared.layouts.Layout.{Layout}
use Rattle.flit_words.specs.Words.{bare_of}
use Rattle.flit_model.specs.CrashImages.{crash_image}
use Rattle.flit_model.specs.Histories.{IsRightAt, history_of}
use Rattle.flit_model.specs.Maps.{IsLegal}
use Rattle.flit_model.specs.Settling.{taken_updates}
use Rattle.flit_model.specs.States.{State, is_ahead}
use Rattle.flit_model.specs.declared.calls.Ahead.{Ahead}
use Rattle.flit_model.specs.declared.calls.Ahead.TheVariants.{None as No_ahead, All as All_ahead, Words as Words_ahead}
use Rattle.flit_model.specs.declared.calls.Entry.{Entry}
use Rattle.flit_structure.specs.declared.workers.Worker.{Worker}
use Rattle.flit_structure.specs.Moments.{IsAmong}
use Rattle.flit_structure.specs.Meanings.{Meaning}
use Rattle.flit_structure.specs.Lawful.{IsRecoverable, IsUnfinished}
use Rattle.flit_table.specs.declared.told.Evidence.{Evidence}
use Rattle.flit_table.specs.declared.told.Known.{Known}
use Rattle.flit_table.specs.declared.told.Told.{Told}
use Rattle.flit_table.specs.declared.views.Logged.{Logged}
use Rattle.flit_table.specs.declared.views.Origin.{Origin}
use Rattle.flit_table.specs.declared.views.View.{View}
use Rattle.flit_table.specs.Logs.{Continues, progress_of, settled_in}
use Rattle.flit_table.specs.Moves.{HasNoneQueued}
use Rattle.flit_table.specs.Orders.{StandInOrder, AreInOrder}
use Rattle.flit_table.specs.Views.{content_of, name_of, answered, reads_in, HasName, workers_of, posts_of, used_of, names_of, updates_seen, history_seen}
use Rattle.flit_table.specs.Rule.{Account, moment_of, IsWithinBounds}

-- the words of which an image takes the value ahead
abbrev pub picks_of : Ahead → ℕ → Bool
picks_of No_ahead word = false
picks_of All_ahead word = true
picks_of (Words_ahead words) word = list_any (λ w. w == word) words.items

-- the image that the words of a table give, where word i stands at 1 + i and its shadow so many places behind
abbrev pub taken_word : Bool → ℕ → ℕ → ℕ
taken_word takes word shadow = if takes && is_ahead word shadow then bare_of word else shadow

abbrev pub word_in : List ℕ → ℕ → Bool → ℕ → ℕ
word_in xs words takes i = taken_word takes (slice_index xs (i + 1)) (slice_index xs (words + (i + 1)))

abbrev pub image_in : (ℕ → Bool) → ℕ → List ℕ → List ℕ
image_in picks words xs = map (λ i. word_in xs words (picks i) i) (range_with_len 0 words)

-- what is known of a pass, with the image
abbrev pub known_in : {S Op : Type 0} → Layout → Ahead → Image → View S Op → Known
known_in l ahead image v = record {
  layout = l;
  ahead = ahead;
  image = image;
  names = names_of v;
  updates = updates_seen v;
  placed = v.placed;
  mine = v.mine;
  events = v.events;
}

abbrev pub known_of : {S Op : Type 0} → Evidence S Op → Known
known_of e = known_in e.layout.value e.ahead.value e.image.value e.held.value.seat.me.0

-- what a Told tells
abbrev pub told_by : Told → Known
told_by t = t.seat.me.0

abbrev pub keeps_nothing : {S Op : Type 0} → Evidence S Op → table.State ℕ Known → Type 0
keeps_nothing e t = Unit {0}

-- each name from 1 to so many is among these; and what is told is of all names
abbrev pub AreAllNames : ℕ → List ℕ → Type 0
AreAllNames workers names = (name : ℕ) → 1 ≤ name → name ≤ workers → Contains names name

abbrev pub TellsAllNames : Known → Type 0
TellsAllNames t = AreAllNames t.layout.workers t.names

module _ {S Op : Type 0} (meaning : Meaning Op) where
  -- a pass has all names of the layout
  abbrev pub HasAllNames : View S Op → Type 0
  HasAllNames v = AreAllNames meaning.layout.workers (names_of v)

  -- a pass has seen all: the log is its log, all workers are its own, and what waits is of operations that it keeps
  pub record HasSeenAll (v : View S Op) (log : List Logged) (workers : List (Worker Op)) : Type 0 where
    pub whole : log ≡ v.log
    pub own : (u : Worker Op) → IsAmong workers u → IsAmong (workers_of (posts_of v)) u
    pub unfinished : (word : ℕ) (e : Entry) → map_of.get (progress_of log).waiting word ≡ Some e → IsUnfinished meaning (workers_of (posts_of v)) e

  -- what the table at the end says with the view of a pass, of the image that takes the values ahead that are picked
  pub record Closes (o : Origin S) (v : View S Op) (picks : ℕ → Bool) (image : List ℕ) : Type 0 where
    pub state : State
    pub log : List Logged
    pub workers : List (Worker Op)
    -- the state in which the table is found, and its crash image, with the map after the settled updates and those that
    -- it takes
    pub holds : meaning.holds (moment_of o state log workers)
    pub is_image : image ≡ crash_image picks state
    pub recovers : IsRecoverable meaning.layout (content_of o) image (settled_in log ++ taken_updates (progress_of log) picks)
    -- what waits is of calls without a reply, of different names
    pub unfinished : (word : ℕ) (e : Entry) → map_of.get (progress_of log).waiting word ≡ Some e → IsUnfinished meaning workers e
    pub one_each : (x y : ℕ) (d e : Entry) → map_of.get (progress_of log).waiting x ≡ Some d → map_of.get (progress_of log).waiting y ≡ Some e →
        d.worker ≡ e.worker → x ≡ y
    -- the log continues the pass's, and the workers of the pass are among those of the moment
    pub continues : Continues v.log log
    pub among : (u : Worker Op) → IsAmong (workers_of (posts_of v)) u → IsAmong workers u
    -- what the pass has seen begins it, and is legal with its reads; its names have their accounts
    pub sees : (more : List Entry) × (settled_in log ≡ updates_seen v ++ more)
    -- with its reads, which are the completed reads among its items; and each item is under one of its names
    pub items : AllByRecursion (λ x. HasName (name_of x) (used_of v)) v.mine
    pub reads : map (λ r. r.entry) v.placed ≡ reads_in v.mine
    pub right : AllByRecursion (IsRightAt (content_of o) (updates_seen v)) v.placed
    pub history : IsLegal (content_of o) (history_seen v)
    pub accounts : AllByRecursion (λ p. Account (settled_in log) v.mine p.worker) (posts_of v)
    -- each name has its completed calls in order, in the history that the pass has seen and in that of all settled updates
    pub order : AreInOrder v
    pub whole_order : AllByRecursion (λ p. StandInOrder (history_of (settled_in log) v.placed) v.mine p.worker) (posts_of v)
    pub bounded : AllByRecursion (IsWithinBounds meaning (moment_of o state log workers)) (answered v.mine)
    -- with one worker nothing was queued
    pub queued : meaning.layout.workers ≡ 1 → AllByRecursion (HasNoneQueued meaning) (posts_of v)
    -- a pass with all names has seen all
    pub gathered : HasAllNames v → HasSeenAll v log workers
