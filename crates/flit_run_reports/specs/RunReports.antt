-- What the command `run` is to tell of a trace whose workers ran on threads, each sentence apart: from the trace, from what
-- recovery found at the start, and from what the close of the running structure has told.
use Rattle.std.specs.Prelude.{◌≡◌, ◌⊎◌, ℕ, ◌+◌, ◌<◌, ◌≤◌, ◌==◌, Bool, List, [], ◌∷◌, ◌++◌, map, filter, drop, length, flat_map, Some, None}
use Rattle.std.specs.FinMap as map_of_pairs
use Rattle.std.specs.List.{AllByRecursion}
use Rattle.flit_words.specs.declared.layouts.Layout.{Layout}
use Rattle.flit_model.specs.Maps.{Map, IsLegal, map_after_all}
use Rattle.flit_model.specs.Recovery.{IsImageOf, IsWhole, layout_of}
use Rattle.flit_model.specs.declared.calls.Ahead.TheVariants.{None as No_ahead}
use Rattle.flit_model.specs.declared.calls.Call.{Call}
use Rattle.flit_model.specs.declared.calls.Entry.{Entry}
use Rattle.flit_model.specs.declared.calls.Item.{Item}
use Rattle.flit_model.specs.declared.calls.Item.TheVariants.{Call as Call_item, Evict as Evict_item}
use Rattle.flit_model.specs.declared.calls.Outcome.{Outcome}
use Rattle.flit_model.specs.declared.calls.Outcome.TheVariants.{Replied, Stopped}
use Rattle.flit_model.specs.declared.found.Recovered.{Recovered}
use Rattle.flit_structure.specs.Lawful.{HasMap}
use Rattle.flit_image.specs.ImageTexts.{image_text}
use Rattle.flit_trace.specs.Contents.{Content, ItemLine}
use Rattle.flit_trace.specs.Drafts.{stop_of}
use Rattle.flit_report.specs.declared.content.Line.{Line}
use Rattle.flit_report.specs.Content.{Content as Report, text_of}
use Rattle.flit_sched.specs.Openings.{content_of}
use Rattle.flit_table.specs.declared.told.Known.{Known}
use Rattle.flit_table.specs.Closing.{TellsAllNames}
use Rattle.flit_table.specs.Orders.{entries_in}
use Rattle.flit_table.specs.Views.{answered, made_by, entries_of}
use Rattle.flit_workers.specs.Works.{item_of, AreNumberedFrom, outcomes_of, EndsAt}
use Rattle.flit_thread_histories.specs.Promises.{history_told, events_told, IsUnfinishedUpdate}
use Rattle.flit_thread_histories.specs.Reports.{AllReplied, IsWithinTold}
use Rattle.flit_step_reports.specs.StepReports.{StartsAt, items_in, version_of, TellsRecovery}

-- the map at the start, and the map after the history that is told
abbrev pub start_map : Recovered → Map
start_map start = content_of start.keys.items start.values.items

abbrev pub end_map : Recovered → Known → Map
end_map start k = map_after_all (start_map start) (history_told k)

-- how many rows are free at the start
abbrev pub start_room : Recovered → ℕ
start_room start = length start.free.items

-- the worker is one of the trace's
abbrev pub IsWorkerOf : Content → ℕ → Type 0
IsWorkerOf t worker = (1 ≤ worker) × (worker ≤ t.head.layout.workers)

-- ---- what the close has told

-- a worker's items behind as many as were made under its name
abbrev pub left_by : Content → Known → ℕ → List Item
left_by t k worker = drop (length (made_by worker k.mine)) (items_in t worker)

-- what is told of one worker
pub record IsToldOfWorker (t : Content) (k : Known) (worker : ℕ) : Type 0 where
  -- what was made under its name are its call and evict lines from the front, in their order
  pub items : items_in t worker ≡ map item_of (made_by worker k.mine) ++ left_by t k worker
  -- without a stop line these are all of its lines; with one it made no more events than this says, and all lines where it
  -- made fewer
  pub ends : EndsAt (stop_of t.stops worker) (events_told worker k) (left_by t k worker)
  -- its entries in the history are its completed calls, each once, in order, under their numbers, and at most one more: the
  -- update of its first call without a reply
  pub numbered : AreNumberedFrom 0 (answered (made_by worker k.mine))
  pub more : List Entry
  pub entries : entries_of worker (history_told k) ≡ entries_in (made_by worker k.mine) ++ more
  pub unfinished : IsUnfinishedUpdate worker (length (answered (made_by worker k.mine)) + 1) (left_by t k worker) more

-- what is told is of a run of the trace on threads, from what recovery found at the start
pub record IsRunOnThreads (t : Content) (start : Recovered) (k : Known) : Type 0 where
  -- it is told of the trace's layout, of all names, and of the image that takes no value ahead
  pub layout : k.layout ≡ t.head.layout
  pub names : TellsAllNames k
  pub ahead : k.ahead ≡ No_ahead
  -- one legal history of one map; recovery finds the map after it in the image, which is whole
  pub legal : IsLegal (start_map start) (history_told k)
  pub shape : IsImageOf t.head.layout k.image
  pub whole : IsWhole k.image
  pub recovered : HasMap (layout_of k.image) k.image.words.items (end_map start k)
  -- each worker's items, events and entries are told, and no entry is of anybody else
  pub workers : (worker : ℕ) → IsWorkerOf t worker → IsToldOfWorker t k worker
  pub others : AllByRecursion (λ e. IsWorkerOf t e.worker) (history_told k)
  -- each Full and each Worn has its bound
  pub bounds : AllByRecursion (λ e. IsWithinTold t.head.layout (start_room start) k e.reply) (answered k.mine)

-- ---- what is printed

-- the calls of a trace in the order of its lines, each with its worker; and those of printed lines
abbrev pub call_in : ℕ → Item → List (ℕ × Call)
call_in worker (Call_item call) = (worker, call) ∷ []
call_in worker (Evict_item word) = []

abbrev pub calls_in_order : List ItemLine → List (ℕ × Call)
calls_in_order lines = flat_map (λ l. call_in l.worker l.item) lines

abbrev pub calls_printed : List Line → List (ℕ × Call)
calls_printed lines = map (λ l. (l.worker, l.call)) lines

-- what is printed of a worker's calls, in order
abbrev pub outcomes_by : ℕ → List Line → List Outcome
outcomes_by worker lines = map (λ l. l.outcome) (filter (λ l. l.worker == worker) lines)

-- these outcomes of a worker's calls are the replies that are told under its name, in order, and then `stopped`; without a stop
-- line none is `stopped`; with one it made as many events as this says, or fewer, and none is `stopped` then
pub record AreOutcomesOf (t : Content) (k : Known) (worker : ℕ) (outcomes : List Outcome) : Type 0 where
  pub replies : outcomes ≡ outcomes_of (made_by worker k.mine) (left_by t k worker)
  pub without_stop : stop_of t.stops worker ≡ None → AllReplied outcomes
  pub with_stop : (stop : ℕ) → stop_of t.stops worker ≡ Some stop → (events_told worker k ≡ stop) ⊎ ((events_told worker k < stop) × AllReplied outcomes)

-- a printed Full or Worn has its bound
abbrev pub IsPrintedWithin : Layout → ℕ → Known → Outcome → Type 0
IsPrintedWithin l room k (Replied reply) = IsWithinTold l room k reply
IsPrintedWithin l room k Stopped = Unit {0}

-- the report tells of a run of the trace on threads: what became of each call, and what recovery finds in the image
pub record IsRunReportOf (t : Content) (start : Recovered) (k : Known) (report : Report) : Type 0 where
  pub run : IsRunOnThreads t start k
  pub version : report.version ≡ version_of t.head.layout
  -- no events, no history and no tallies
  pub events : report.events ≡ []
  pub history : report.history ≡ []
  pub tallies : report.tallies ≡ []
  -- each call of the trace in the order of its lines, and what became of it
  pub calls : calls_printed report.lines ≡ calls_in_order t.items
  pub outcomes : (worker : ℕ) → IsWorkerOf t worker → AreOutcomesOf t k worker (outcomes_by worker report.lines)
  pub bounds : AllByRecursion (λ l. IsPrintedWithin t.head.layout (start_room start) k l.outcome) report.lines
  -- the keys, values and free rows that recovery finds in the image, which are the map after the history
  pub recovery : TellsRecovery t.head.layout k.image.words.items report
  pub keys : report.keys ≡ map_of_pairs.keys (end_map start k)
  pub values : report.values ≡ map_of_pairs.values (end_map start k)

-- a text is that of the report of a run of the trace on threads, from where it starts; or of a summary of this report
pub record IsRunText (t : Content) (summary : Bool) (k : Known) (text : List ℕ) : Type 0 where
  pub start : Recovered
  pub starts : StartsAt t start
  pub report : Report
  pub is : IsRunReportOf t start k report
  pub summary_is : report.summary ≡ summary
  pub text_is : text ≡ text_of report

-- a text is that of the image of such a run
pub record IsRunImageText (t : Content) (k : Known) (text : List ℕ) : Type 0 where
  pub start : Recovered
  pub starts : StartsAt t start
  pub run : IsRunOnThreads t start k
  pub text_is : text ≡ image_text (layout_of k.image) k.image.words.items
