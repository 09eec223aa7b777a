-- The calls of a trace and the lines that a report has of them.
use Rattle.std.specs.Prelude.{◌≡◌, ℕ, ◌+◌, ◌-◌, ◌≤◌, ◌==◌, List, [], ◌∷◌, ◌++◌, map, filter, Some, slice_get, if◌then◌else◌}
use Rattle.flit_model.specs.declared.calls.Call.{Call}
use Rattle.flit_model.specs.declared.calls.Entry.{Entry}
use Rattle.flit_model.specs.declared.calls.Item.{Item}
use Rattle.flit_model.specs.declared.calls.Item.TheVariants.{Call as Call_item, Evict as Evict_item}
use Rattle.flit_model.specs.declared.calls.Outcome.{Outcome}
use Rattle.flit_report.specs.declared.content.Line.{Line}
use Rattle.flit_report.specs.Content.{is_stopped}
use Rattle.flit_trace.specs.Contents.{ItemLine}
use Rattle.flit_histories.specs.Calls.{is_of}

-- the calls that a trace asks for, each with its worker, in the order of its lines
abbrev pub call_asked : ℕ → Item → List (ℕ × Call)
call_asked worker (Call_item call) = (worker, call) ∷ []
call_asked worker (Evict_item word) = []

abbrev pub calls_asked : List ItemLine → List (ℕ × Call)
calls_asked [] = []
calls_asked (l ∷ ls) = call_asked l.worker l.item ++ calls_asked ls

-- the calls of which a report has a line, in the order of its lines
abbrev pub calls_told : List Line → List (ℕ × Call)
calls_told lines = map (λ l. (l.worker, l.call)) lines

-- the lines of a worker
abbrev pub lines_of : ℕ → List Line → List Line
lines_of worker lines = filter (λ l. l.worker == worker) lines

-- the line of a worker's call of this number: the first line of the worker is that of its call 1
pub record IsLineOf (lines : List Line) (worker number : ℕ) (call : Call) (outcome : Outcome) : Type 0 where
  pub counted : 1 ≤ number
  pub is : slice_get (lines_of worker lines) (number - 1) ≡ Some (record { worker = worker; call = call; outcome = outcome })

-- what a history has of a worker's call of this number
abbrev pub entries_at : ℕ → ℕ → List Entry → List Entry
entries_at worker number history = filter (is_of worker number) history

-- how many of a worker's calls may have begun, by its lines: those that are answered in front of the first that was stopped, and
-- this one
abbrev pub may_have_begun : List Line → ℕ
may_have_begun [] = 0
may_have_begun (l ∷ ls) = if is_stopped l.outcome then 1 else 1 + may_have_begun ls
