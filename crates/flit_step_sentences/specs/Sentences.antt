-- The headline, sentence by sentence, of what the command `step` prints of a trace. It is said over the trace, over what recovery
-- finds where the trace starts, over the events that the workers made, and over what the report tells.
use Rattle.std.specs.Prelude.{◌≡◌, ◌⊎◌, ℕ, ◌+◌, ◌-◌, ◌*◌, ◌^◌, min, ◌<◌, ◌≤◌, Bool, true, false, List, [], ◌∷◌, length, Some, slice_get, if◌then◌else◌}
use Rattle.std.specs.List.{AllByRecursion}
use Rattle.std.specs.FinMap as map_of_pairs
use Rattle.flit_words.specs.declared.layouts.Layout.{Layout}
use Rattle.flit_model.specs.Maps.{Map, IsLegal, map_after_all}
use Rattle.flit_model.specs.Histories.{is_update}
use Rattle.flit_model.specs.States.{State, IsPersistent}
use Rattle.flit_model.specs.CrashImages.{crash_image}
use Rattle.flit_model.specs.declared.calls.Call.{Call}
use Rattle.flit_model.specs.declared.calls.Entry.{Entry}
use Rattle.flit_model.specs.declared.calls.Outcome.TheVariants.{Replied, Stopped}
use Rattle.flit_model.specs.declared.calls.Reply.{Reply}
use Rattle.flit_model.specs.declared.calls.Reply.TheVariants.{Full, Worn}
use Rattle.flit_model.specs.declared.calls.Tally.{Tally}
use Rattle.flit_model.specs.declared.found.Recovered.{Recovered}
use Rattle.flit_structure.specs.Lawful.{IsBelowTop, AreLoadsSplit, excuses, fits, rows_needed}
use Rattle.flit_trace.specs.Contents.{Content}
use Rattle.flit_trace.specs.Drafts.{stop_of}
use Rattle.flit_report.specs.declared.content.Shown.{Shown}
use Rattle.flit_report.specs.Content.{Content as Told, is_done}
use Rattle.flit_sched.specs.Openings.{content_of}
use Rattle.flit_histories.specs.Calls.{inserts_in}
use Rattle.flit_histories.specs.Orders.{IsIn, StandsBefore}
use Rattle.flit_step_reports.specs.StepReports.{plan_of, picks_in, version_of, TellsRecovery}
use Rattle.flit_step_sentences.specs.Lines.{calls_asked, calls_told, lines_of, IsLineOf, entries_at, may_have_begun}
use Rattle.flit_step_sentences.specs.Machines.{first_state, state_after, AreAnswered, AreInTurns, events_made, persists_made}

-- the map at the start
abbrev pub map_at : Recovered → Map
map_at start = content_of start.keys.items start.values.items

-- ---- what is printed of each call

-- a completed call has just one entry in the history, under its worker and number, with this call and this reply; one that was
-- answered Full or Worn has none; and each reply is one that fits its call
pub record HasCompletedOnce (told : Told) : Type 0 where
  pub done : (worker number : ℕ) (call : Call) (reply : Reply) → IsLineOf told.lines worker number call (Replied reply) →
      is_done (Replied reply) ≡ true →
      entries_at worker number told.history ≡ record { worker = worker; number = number; call = call; reply = reply } ∷ []
  pub refused : (worker number : ℕ) (call : Call) (reply : Reply) → IsLineOf told.lines worker number call (Replied reply) →
      is_done (Replied reply) ≡ false → entries_at worker number told.history ≡ []
  pub fit : (worker number : ℕ) (call : Call) (reply : Reply) → IsLineOf told.lines worker number call (Replied reply) → fits call reply ≡ true

-- an entry is the update of a call that is printed `stopped`, the first of its worker that is, and stands there once
pub record IsUnfinishedUpdate (told : Told) (e : Entry) : Type 0 where
  pub line : IsLineOf told.lines e.worker e.number e.call Stopped
  pub update : is_update e ≡ true
  pub first : (number : ℕ) (call : Call) → number < e.number → IsLineOf told.lines e.worker number call Stopped → ⊥
  pub once : entries_at e.worker e.number told.history ≡ e ∷ []

-- each entry is that of a completed call or such an update, and of one worker there is one such at most
pub record HasOneUnfinishedEach (told : Told) : Type 0 where
  pub rest : (e : Entry) → IsIn told.history e → IsLineOf told.lines e.worker e.number e.call (Replied e.reply) ⊎ IsUnfinishedUpdate told e
  pub one : (d e : Entry) → d.worker ≡ e.worker → IsUnfinishedUpdate told d → IsUnfinishedUpdate told e → d ≡ e

-- a call is printed `stopped` only of a worker with a stop, which has made just as many events as it says, and then each later
-- call of the worker is; no worker makes more events than its stop says
pub record KeepsStops (t : Content) (events : List Shown) (told : Told) : Type 0 where
  pub stopped : (worker number : ℕ) (call : Call) → IsLineOf told.lines worker number call Stopped →
      (n : ℕ) × (stop_of t.stops worker ≡ Some n) × (events_made worker events ≡ n)
  pub behind : (worker number later : ℕ) (call other : Call) (reply : Reply) → IsLineOf told.lines worker number call Stopped → number < later →
      IsLineOf told.lines worker later other (Replied reply) → ⊥
  pub most : (worker n : ℕ) → 1 ≤ worker → worker ≤ t.head.layout.workers → stop_of t.stops worker ≡ Some n → events_made worker events ≤ n

-- a call is answered Full only where its ticket is past the rows that were free at the start, and these may all be in use or
-- spare; and Worn only where the version is at the limit, and persistent
pub record IsWithinBounds (l : Layout) (room : ℕ) (last : State) (told : Told) : Type 0 where
  pub full : (worker number : ℕ) (call : Call) (ticket : ℕ) → IsLineOf told.lines worker number call (Replied (Full ticket)) →
      (room ≤ ticket) × (room < rows_needed l.kind * (inserts_in told.history + l.workers))
  pub worn : (worker number : ℕ) (call : Call) (word version : ℕ) → IsLineOf told.lines worker number call (Replied (Worn word version)) →
      (l.limit ≤ version) × IsPersistent last word version

-- ---- the headline

pub record SaysHeadline (t : Content) (shows : Bool) (start : Recovered) (events : List Shown) (told : Told) : Type 0 where
  -- each call of the trace has its line, in the order of the trace; and the events are told where they are wanted, in the turns
  -- that the trace gives and then until each worker is out, each with the answer of the machine
  pub version : told.version ≡ version_of t.head.layout
  pub calls : calls_told told.lines ≡ calls_asked t.items
  pub events_told : told.events ≡ (if shows then events else [])
  pub turns : AreInTurns (plan_of t) events
  pub answered : AreAnswered (first_state t.head.layout start) events
  -- the history is legal from the map at the start, with each completed call once, each worker's in the order of its lines,
  -- and beside them at most one unfinished update of each worker
  pub legal : IsLegal (map_at start) told.history
  pub completed : HasCompletedOnce told
  pub order : (d e : Entry) → IsIn told.history d → IsIn told.history e → d.worker ≡ e.worker → d.number < e.number → StandsBefore told.history d e
  pub unfinished : HasOneUnfinishedEach told
  -- from the words that a crash leaves of the last machine, taking the values ahead that the trace names, recovery finds the map
  -- after that history, and so many free rows
  pub keys : told.keys ≡ map_of_pairs.keys (map_after_all (map_at start) told.history)
  pub values : told.values ≡ map_of_pairs.values (map_after_all (map_at start) told.history)
  pub recovered : TellsRecovery t.head.layout (crash_image (picks_in t) (state_after (first_state t.head.layout start) events)) told
  -- who was stopped, and who was refused
  pub stops : KeepsStops t events told
  pub bounds : IsWithinBounds t.head.layout (length start.free.items) (state_after (first_state t.head.layout start) events) told
  -- a tally of each worker; with one worker no write-back was queued because a tag showed; a tally counts the write-backs among
  -- the worker's events, as far as 64 bits go; each load that it counts has queued its word or not; and the searches that a
  -- worker began are at most its lost exchanges, in a tree its helped removals too, and one for each call that it may have begun
  pub tallies : length told.tallies ≡ t.head.layout.workers
  pub queued : t.head.layout.workers ≡ 1 → AllByRecursion (λ tally. tally.queued ≡ 0) told.tallies
  pub persists : (worker : ℕ) (tally : Tally) → 1 ≤ worker → slice_get told.tallies (worker - 1) ≡ Some tally →
      tally.persists ≡ min (persists_made worker events) (2 ^ 64 - 1)
  pub split : AllByRecursion AreLoadsSplit told.tallies
  pub searches : (worker : ℕ) (tally : Tally) → 1 ≤ worker → slice_get told.tallies (worker - 1) ≡ Some tally → IsBelowTop tally →
      tally.tries ≤ excuses t.head.layout.kind tally + may_have_begun (lines_of worker told.lines)
