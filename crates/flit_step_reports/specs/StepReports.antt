-- What the command `step` is to tell of a trace: the report of the run that the trace's turn lines give, followed by each
-- worker until it is out, worker 1 first.
use Rattle.std.specs.Prelude.{◌≡◌, ℕ, ◌-◌, ◌==◌, ◌||◌, Bool, List, [], ◌∷◌, ◌++◌, map, length, count_by, Option, Some, None, slice_get, if◌then◌else◌}
use Rattle.std.specs.List.{list_any, range_with_len}
use Rattle.flit_words.specs.declared.layouts.Layout.{Layout}
use Rattle.flit_model.specs.States.{fresh_words}
use Rattle.flit_model.specs.CrashImages.{crash_image}
use Rattle.flit_model.specs.Recovery.{IsRecovery}
use Rattle.flit_model.specs.declared.calls.Item.{Item}
use Rattle.flit_model.specs.declared.calls.Item.TheVariants.{Call as Call_item, Evict as Evict_item}
use Rattle.flit_model.specs.declared.calls.Outcome.{Outcome}
use Rattle.flit_model.specs.declared.calls.Outcome.TheVariants.{Stopped}
use Rattle.flit_model.specs.declared.calls.Work.{Work}
use Rattle.flit_model.specs.declared.found.Recovered.{Recovered}
use Rattle.flit_structure.specs.Meanings.{Meaning}
use Rattle.flit_trace.specs.declared.heads.Head.{Head}
use Rattle.flit_trace.specs.Contents.{Content, ItemLine, script_of}
use Rattle.flit_trace.specs.Drafts.{stop_of}
use Rattle.flit_report.specs.declared.content.Line.{Line as Told_line}
use Rattle.flit_report.specs.Content.{Content as Told}
use Rattle.flit_sched.specs.Runs.{Part, Run}
use Rattle.flit_sched.specs.Openings.{opened_run}
use Rattle.flit_sched.specs.Turns.{tally_in}
use Rattle.flit_sched.specs.Views.{history_with}
use Rattle.flit_histories.specs.Following.{Given}
use Rattle.flit_turns.specs.Lines.{Line, shown_if, FollowsLines, turn_lines, last_lines}
use Rattle.flit_headline.specs.Sentences.{KeepsHeadline}

-- a structure's meaning, with its type of operations
pub record Known : Type 1 where
  pub Op : Type 0
  pub meaning : Meaning Op

-- what picks the structure of a trace: what it says before its calls, and the rows that are free at the start
abbrev pub Choice : Type 1
Choice = Head → List ℕ → Known

-- ---- what a trace asks for

-- the words at the start: those of the start image, or fresh ones
abbrev pub words_or : List ℕ → Option (List ℕ) → List ℕ
words_or fresh None = fresh
words_or fresh (Some words) = words

abbrev pub start_words : Content → List ℕ
start_words t = words_or (fresh_words t.head.layout) t.start

-- what recovery finds in them
pub record StartsAt (t : Content) (start : Recovered) : Type 0 where
  pub words : start.image.words.items ≡ start_words t
  pub recovery : IsRecovery t.head.layout start.image.words.items start.keys.items start.values.items start.free.items

-- a work for each worker, worker 1 first: the items of its lines, and its stop
abbrev pub items_in : Content → ℕ → List Item
items_in t worker = map (λ line. line.1) (script_of t.items worker)

pub record AreWorksOf (t : Content) (works : List Work) : Type 0 where
  pub items : map (λ w. w.items.items) works ≡ map (items_in t) (range_with_len 1 t.head.layout.workers)
  pub stops : map (λ w. w.stop) works ≡ map (stop_of t.stops) (range_with_len 1 t.head.layout.workers)

-- the lines of turns: the trace's turn lines, and then each worker until it is out, worker 1 first
abbrev pub plan_of : Content → List Line
plan_of t = turn_lines t.turns ++ last_lines t.head.layout.workers

-- the words of which the crash takes the value ahead
abbrev pub picks_in : Content → ℕ → Bool
picks_in t word = t.all_ahead || list_any (λ w. w == word) t.ahead

-- ---- what is told of a run

-- what became of an item of a worker; of an Evict there is nothing to tell
abbrev pub outcome_or_stopped : Option (Option Outcome) → Outcome
outcome_or_stopped (Some (Some outcome)) = outcome
outcome_or_stopped (Some None) = Stopped
outcome_or_stopped None = Stopped

abbrev pub outcome_of : {Op : Type 0} → Option (Part Op) → ℕ → Outcome
outcome_of None item = Stopped
outcome_of (Some p) item = outcome_or_stopped (slice_get p.outcomes item)

abbrev pub outcome_in : {Op : Type 0} → Run Op → ℕ → ℕ → Outcome
outcome_in r worker item = outcome_of (slice_get r.parts (worker - 1)) item

-- how many of some lines are of a worker
abbrev pub lines_by : ℕ → List ItemLine → ℕ
lines_by worker lines = count_by (λ l. l.worker == worker) lines

-- what is told of a line that stands behind others: of a call its outcome
abbrev pub told_item : {Op : Type 0} → Run Op → ℕ → ℕ → Item → List Told_line
told_item r worker item (Call_item call) = record { worker = worker; call = call; outcome = outcome_in r worker item } ∷ []
told_item r worker item (Evict_item word) = []

abbrev pub told_lines : {Op : Type 0} → Run Op → List ItemLine → List ItemLine → List Told_line
told_lines r front [] = []
told_lines r front (l ∷ ls) = told_item r l.worker (lines_by l.worker front) l.item ++ told_lines r (front ++ l ∷ []) ls

-- a report of version 2 shows the values
abbrev pub version_of : Layout → ℕ
version_of l = if l.values then 2 else 1

-- the keys and values that recovery finds in the image that a crash leaves at the end of a run, and how many rows are free
pub record TellsRecovery (l : Layout) (image : List ℕ) (told : Told) : Type 0 where
  pub free : List ℕ
  pub recovery : IsRecovery l image told.keys told.values free
  pub free_is : told.free ≡ length free

-- a run is that of the trace's lines of turns, opened at what recovery found, and these turns were given
pub record IsRunOf {Op : Type 0} (meaning : Meaning Op) (t : Content) (start : Recovered) (given : List Given) (final : Run Op) : Type 0 where
  pub works : List Work
  pub are_works : AreWorksOf t works
  pub follows : FollowsLines meaning (opened_run meaning start works) (plan_of t) given final
  pub headline : KeepsHeadline meaning (opened_run meaning start works) given final (picks_in t)

-- the report tells the run: its events where they are wanted, what became of each call, the history, the tallies, and
-- what recovery finds
pub record IsReportOf {Op : Type 0} (meaning : Meaning Op) (t : Content) (shows : Bool) (start : Recovered) (told : Told) : Type 0 where
  pub given : List Given
  pub final : Run Op
  pub run : IsRunOf meaning t start given final
  pub version : told.version ≡ version_of t.head.layout
  pub events : told.events ≡ shown_if shows given
  pub lines : told.lines ≡ told_lines final [] t.items
  pub history : told.history ≡ history_with final (picks_in t)
  pub tallies : told.tallies ≡ map (λ p. tally_in meaning p.worker.doing) final.parts
  pub recovered : TellsRecovery t.head.layout (crash_image (picks_in t) final.state) told
