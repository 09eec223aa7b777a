-- Where each line may stand: what the lines so far have said, and what a further line makes of it.
use Rattle.std.specs.Prelude.{◌≡◌, ℕ, ◌+◌, ◌-◌, ◌≤◌, ◌==◌, nat_le, nat_lt, Bool, true, false, not, List, ◌&&◌, ◌||◌, Option, Some, None, is_none, if◌then◌else◌, replicate, slice_index_or, slice_set}
use Rattle.flit_words.specs.declared.layouts.Kind.{Kind}
use Rattle.flit_words.specs.declared.layouts.Kind.TheVariants.{List as List_kind, Hash, Tree}
use Rattle.flit_words.specs.declared.layouts.Layout.{Layout}
use Rattle.flit_words.specs.Layouts.{Accepted, words_of, initial_of}
use Rattle.flit_words.specs.declared.limits.TheConstants.{GREATEST_VERSION, MOST_WORKERS, MOST_BUCKETS, MOST_HASHED_SLOTS, MOST_ROWS, MOST_CALLS, GREATEST_KEY, GREATEST_VALUE}
use Rattle.flit_trace.specs.declared.faults.Bound.{Bound}
use Rattle.flit_trace.specs.declared.faults.Bound.TheVariants as bound
use Rattle.flit_trace.specs.declared.faults.TraceError.{TraceError}
use Rattle.flit_trace.specs.declared.faults.TraceError.TheVariants.{BadLine, Limit, NoEnd, NoMemory}
use Rattle.flit_trace.specs.declared.heads.Place.{Place}
use Rattle.flit_trace.specs.declared.heads.Place.TheVariants as place
use Rattle.flit_trace.specs.declared.sentences.Sentence.{Sentence}
use Rattle.flit_trace.specs.declared.sentences.Sentence.TheVariants.{Version, Structure, Adjacent, Hashed, Packed, Lines, Rows, Workers, Versions, Start, Word, Begin, Insert, Remove, Contains, Get, Evict, Stop, Turn, Ahead, AheadAll, End}
use Rattle.flit_trace.specs.declared.stages.Stage.{Stage}
use Rattle.flit_trace.specs.declared.stages.Stage.TheVariants.{AtVersion, AtStructure, AtPlace, AtRows, AtWorkers, AtVersions, AtStart, InBlock, InBody, Ended}
use Rattle.flit_trace.specs.declared.drafts.Draft.{Draft}

-- nothing was said yet: what may be left out has its default, and every other number its least
abbrev pub blank : Draft
blank = record {
  stage = AtVersion;
  layout = record {
    kind = List_kind;
    buckets = 1;
    rows = 1;
    slots = 0;
    workers = 1;
    limit = GREATEST_VERSION;
    values = false;
  };
  place = place.Adjacent;
  has_start = false;
  start_values = false;
  told = 0;
  lines = 0;
  calls = 0;
  stops = replicate MOST_WORKERS None;
}

-- what a line makes of a draft: a further draft, or it can't stand there, or it could but for a number past a limit
pub data Verdict : Type 0 where
  Goes : Draft → Verdict
  IsBad : Verdict
  IsPast : Bound → Verdict

-- a number from 1 up to its limit goes on; 0 is bad, and a greater number is past the limit
abbrev pub up_to : ℕ → ℕ → Bound → Draft → Verdict
up_to n most bound d = if n == 0 then IsBad else (if nat_le n most then Goes d else IsPast bound)

-- where the test fails the line is bad
abbrev pub only_if : Bool → Verdict → Verdict
only_if test v = if test then v else IsBad

-- the stages at which the lines of the head may come
abbrev pub takes_version : Stage → Bool
takes_version AtVersion = true
takes_version _ = false

abbrev pub takes_structure : Stage → Bool
takes_structure AtStructure = true
takes_structure _ = false

abbrev pub takes_place : Stage → Bool
takes_place AtPlace = true
takes_place _ = false

abbrev pub takes_rows : Stage → Bool
takes_rows AtPlace = true
takes_rows AtRows = true
takes_rows _ = false

abbrev pub takes_workers : Stage → Bool
takes_workers AtWorkers = true
takes_workers _ = false

abbrev pub takes_versions : Stage → Bool
takes_versions AtVersions = true
takes_versions _ = false

abbrev pub takes_start : Stage → Bool
takes_start AtVersions = true
takes_start AtStart = true
takes_start _ = false

-- the stage of a start block, and those at which a body line or `end` may come
abbrev pub is_in_block : Stage → Bool
is_in_block InBlock = true
is_in_block _ = false

abbrev pub takes_body : Stage → Bool
takes_body AtVersions = true
takes_body AtStart = true
takes_body InBody = true
takes_body _ = false

abbrev pub is_ended : Stage → Bool
is_ended Ended = true
is_ended _ = false

-- a line of the head may still come
abbrev pub is_early : Stage → Bool
is_early InBlock = false
is_early InBody = false
is_early Ended = false
is_early _ = true

-- version 2 has values
abbrev pub version_verdict : Draft → ℕ → Verdict
version_verdict d n =
    only_if (takes_version d.stage && (n == 1 || n == 2)) (Goes (record d { stage = AtStructure; layout = record d.layout { values = n == 2 } }))

abbrev pub with_structure : Draft → Kind → ℕ → Draft
with_structure d kind buckets = record d { stage = AtPlace; layout = record d.layout { kind = kind; buckets = buckets } }

-- a list has one head and a tree none
abbrev pub buckets_verdict : Draft → Kind → ℕ → Verdict
buckets_verdict d List_kind buckets = Goes (with_structure d List_kind 1)
buckets_verdict d Hash buckets = up_to buckets MOST_BUCKETS bound.Buckets (with_structure d Hash buckets)
buckets_verdict d Tree buckets = Goes (with_structure d Tree 0)

abbrev pub structure_verdict : Draft → Kind → ℕ → Verdict
structure_verdict d kind buckets = only_if (takes_structure d.stage) (buckets_verdict d kind buckets)

abbrev pub with_place : Draft → Place → Draft
with_place d p = record d { stage = AtRows; place = p }

abbrev pub place_verdict : Draft → Place → Verdict
place_verdict d p = only_if (takes_place d.stage) (Goes (with_place d p))

abbrev pub hashed_verdict : Draft → ℕ → Verdict
hashed_verdict d n = only_if (takes_place d.stage) (up_to n MOST_HASHED_SLOTS bound.Slots (with_place d (place.Hashed n)))

abbrev pub rows_verdict : Draft → ℕ → Verdict
rows_verdict d n =
    only_if (takes_rows d.stage) (up_to n MOST_ROWS bound.Rows (record d { stage = AtWorkers; layout = record d.layout { rows = n } }))

abbrev pub workers_verdict : Draft → ℕ → Verdict
workers_verdict d n =
    only_if (takes_workers d.stage) (up_to n MOST_WORKERS bound.Workers (record d { stage = AtVersions; layout = record d.layout { workers = n } }))

abbrev pub versions_verdict : Draft → ℕ → Verdict
versions_verdict d n =
    only_if (takes_versions d.stage) (up_to n GREATEST_VERSION bound.Versions (record d { stage = AtStart; layout = record d.layout { limit = n } }))

-- a start block stands in version 2 alone, and is itself of version 1 or 2
abbrev pub start_verdict : Draft → ℕ → Verdict
start_verdict d n =
    only_if (takes_start d.stage && d.layout.values && (n == 1 || n == 2)) (Goes (record d { stage = InBlock; has_start = true; start_values = n == 2 }))

-- the layout of the words of the start block
abbrev pub start_layout : Draft → Layout
start_layout d = record d.layout { values = d.start_values }

-- in a start block the words rise, each is one of the block's layout, and none is told its fresh value
abbrev pub word_verdict : Draft → ℕ → ℕ → Verdict
word_verdict d word raw =
    only_if (is_in_block d.stage && nat_le d.told word && nat_lt word (words_of (start_layout d)) && not (raw == initial_of d.layout.kind word))
    (Goes (record d { told = word + 1 }))

abbrev pub begin_verdict : Draft → Verdict
begin_verdict d = only_if (is_in_block d.stage) (Goes (record d { stage = InBody }))

-- a line of the body, and one that names a worker
abbrev pub in_body : Draft → Draft
in_body d = record d { stage = InBody }

abbrev pub is_worker : Draft → ℕ → Bool
is_worker d worker = nat_le 1 worker && nat_le worker d.layout.workers

-- a call or evict line whose numbers are right; the one past the limit on such lines is past it
abbrev pub with_line : Draft → ℕ → Draft
with_line d calls = record d { stage = InBody; lines = d.lines + 1; calls = d.calls + calls }

abbrev pub line_verdict : Draft → ℕ → Bool → ℕ → Verdict
line_verdict d worker right calls =
    only_if (takes_body d.stage && is_worker d worker && right) (if nat_lt d.lines MOST_CALLS then Goes (with_line d calls) else IsPast bound.Calls)

abbrev pub is_key : ℕ → Bool
is_key key = nat_le key GREATEST_KEY

-- an insert has a value exactly in version 2
abbrev pub is_value : Bool → Option ℕ → Bool
is_value true (Some v) = nat_le v GREATEST_VALUE
is_value true None = false
is_value false (Some v) = false
is_value false None = true

-- a worker's stop point
abbrev pub stop_of : List (Option ℕ) → ℕ → Option ℕ
stop_of stops worker = slice_index_or stops (worker - 1) None

abbrev pub with_stop : Draft → ℕ → ℕ → Draft
with_stop d worker events = record d { stage = InBody; stops = slice_set d.stops (worker - 1) (Some events) }

-- at most one stop line a worker
abbrev pub stop_verdict : Draft → ℕ → ℕ → Verdict
stop_verdict d worker events =
    only_if (takes_body d.stage && is_worker d worker && is_none (stop_of d.stops worker)) (Goes (with_stop d worker events))

-- what each line makes of a draft
abbrev pub verdict : Draft → Sentence → Verdict
verdict d (Version n) = version_verdict d n
verdict d (Structure kind buckets) = structure_verdict d kind buckets
verdict d Adjacent = place_verdict d place.Adjacent
verdict d (Hashed n) = hashed_verdict d n
verdict d Packed = place_verdict d place.Packed
verdict d Lines = place_verdict d place.Lines
verdict d (Rows n) = rows_verdict d n
verdict d (Workers n) = workers_verdict d n
verdict d (Versions n) = versions_verdict d n
verdict d (Start n) = start_verdict d n
verdict d (Word word raw) = word_verdict d word raw
verdict d Begin = begin_verdict d
verdict d (Insert worker key value) = line_verdict d worker (is_key key && is_value d.layout.values value) 1
verdict d (Remove worker key) = line_verdict d worker (is_key key) 1
verdict d (Contains worker key) = line_verdict d worker (is_key key) 1
verdict d (Get worker key) = line_verdict d worker (d.layout.values && is_key key) 1
verdict d (Evict worker word) = line_verdict d worker (nat_lt word (words_of d.layout)) 0
verdict d (Stop worker events) = stop_verdict d worker events
verdict d (Turn worker events) = only_if (takes_body d.stage && is_worker d worker && nat_le 1 events) (Goes (in_body d))
verdict d (Ahead word) = only_if (takes_body d.stage && nat_lt word (words_of d.layout)) (Goes (in_body d))
verdict d AheadAll = only_if (takes_body d.stage) (Goes (in_body d))
verdict d End = only_if (takes_body d.stage) (Goes (record d { stage = Ended }))

-- a hashed place has from 1 to MOST_HASHED_SLOTS slots
abbrev pub IsPlace : Place → Type 0
IsPlace place.Adjacent = Unit {0}
IsPlace (place.Hashed n) = (1 ≤ n) × (n ≤ MOST_HASHED_SLOTS)
IsPlace place.Packed = Unit {0}
IsPlace place.Lines = Unit {0}

-- the numbers of a draft are within the limits
pub record IsSound (d : Draft) : Type 0 where
  pub accepted : Accepted d.layout
  pub place : IsPlace d.place
  pub lines : d.lines ≤ MOST_CALLS
  pub calls : d.calls ≤ d.lines
  pub told : d.told ≤ 16777216

-- the error of line n for a verdict
abbrev pub IsErrorFor : ℕ → Verdict → TraceError → Type 0
IsErrorFor n v (BadLine m) = (m ≡ n) × (v ≡ IsBad)
IsErrorFor n v (Limit m bound) = (m ≡ n) × (v ≡ IsPast bound)
IsErrorFor n v (NoEnd m) = ⊥
IsErrorFor n v NoMemory = ⊥
