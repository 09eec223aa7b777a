-- What a trace's fields show.
use Rattle.std.specs.Prelude.{◌≡◌, ℕ, ◌≤◌, Bool, true, false, List, [], map, length, IfSome}
use Rattle.flit_words.specs.Layouts.{Accepted}
use Rattle.flit_words.specs.declared.limits.TheConstants.{MOST_CALLS, MOST_WORKERS}
use Rattle.flit_model.specs.declared.calls.Ahead.{Ahead}
use Rattle.flit_model.specs.declared.calls.Ahead.TheVariants as ahead
use Rattle.flit_trace.specs.declared.traces.Trace.TheInside.{Inside}
use Rattle.flit_trace.specs.Entries.{numbered}
use Rattle.flit_trace.specs.Ahead.{Names}
use Rattle.flit_trace.specs.SeenTraces.{SeenTrace}
use Rattle.flit_trace.specs.Starts.{IsStartOf, words_in}

abbrev pub names_all : Ahead → Bool
names_all ahead.None = false
names_all ahead.All = true
names_all (ahead.Words v) = false

abbrev pub named : Ahead → List ℕ
named ahead.None = []
named ahead.All = []
named (ahead.Words v) = v.items

abbrev pub seen_of : Inside → SeenTrace
seen_of t = record {
  head = t.head;
  calls = t.calls;
  scripts = map (λ v. map numbered v.items) t.scripts.items;
  stops = t.stops;
  turns = t.turns.items;
  all_ahead = names_all t.ahead;
  ahead = named t.ahead;
  start = words_in t.start;
}

-- what is so of each trace that was read
pub record IsTraceInside (t : Inside) : Type 0 where
  pub accepted : Accepted t.head.layout
  pub calls : t.calls ≤ MOST_CALLS
  pub scripts : length t.scripts.items ≡ MOST_WORKERS
  pub names : Names t.ahead (names_all t.ahead) (named t.ahead)
  pub start : IfSome t.start (IsStartOf t.head.layout)
