-- How many events a call of a map of at most one key has to go: the rest of its try, and one more try where the head isn't
-- what the call has loaded.
use Rattle.std.specs.Prelude.{ℕ, ◌+◌, ◌-◌, ◌==◌, List, slice_index, Some, if◌then◌else◌}
use Rattle.flit_words.specs.declared.layouts.Layout.{Layout}
use Rattle.flit_words.specs.Words.{bare_of}
use Rattle.flit_place.specs.Tags.{Place}
use Rattle.flit_pv.specs.declared.exchanges.Exchanging.{Exchanging}
use Rattle.flit_pv.specs.declared.exchanges.Exchanging.TheVariants.{Ready, Tries, TriesBare, WritesBack, Withdraws, Lowers, Ended}
use Rattle.flit_crew.specs.Machines.{Part, ToRead, HasRead, ToWin, HasWon, HasWritten, HasLost, Other, load_part}
use Rattle.flit_crew_bounds.specs.Counting.{KeepsCounts}
use Rattle.flit_crew_bounds.specs.Bounding.{Limits, KeepsLimits}
use Rattle.flit_one_key.specs.Operations.{At, Head, Key, Value, Row, Words, RowValue, Link, Ends, Rests, HeldOp}
use Rattle.flit_one_key.specs.Steps.{IsSmall}
use Rattle.flit_one_key.specs.OneKey.{Opens}
use Rattle.flit_one_key_crew.specs.OneKeyCrew.{one_key_crew}

-- one try has at most so many events, that of an insert with a value
abbrev pub most_events : ℕ
most_events = 18

-- the events of this try that may follow the machine
abbrev pub rest_at : At → ℕ
rest_at (Head m) = 15
rest_at (Key head m) = 14
rest_at (Value m) = 0
rest_at (Row head m) = 13
rest_at (Words head m) = 7
rest_at (RowValue head m) = 4
rest_at (Link m) = 0
rest_at (Ends m) = 0
rest_at (Rests hand) = 0

-- one more try is to come where the head isn't what the call has loaded
abbrev pub differs : List ℕ → ℕ → ℕ
differs words head = if slice_index words 0 == head then 0 else most_events

abbrev pub load_again : List ℕ → Part → ℕ
load_again words (ToRead word) = 0
load_again words (HasRead word raw) = differs words raw
load_again words ToWin = 0
load_again words HasWon = 0
load_again words HasWritten = 0
load_again words (HasLost found) = 0
load_again words Other = 0

abbrev pub link_again : List ℕ → Exchanging → ℕ → ℕ
link_again words Ready from = differs words from
link_again words (Tries slot) from = differs words from
link_again words TriesBare from = differs words (bare_of from)
link_again words WritesBack from = 0
link_again words Withdraws from = 0
link_again words (Lowers slot found) from = most_events
link_again words (Ended how) from = 0

abbrev pub again_at : List ℕ → At → ℕ
again_at words (Head m) = load_again words (load_part m.at m.word)
again_at words (Key head m) = differs words head
again_at words (Value m) = 0
again_at words (Row head m) = differs words head
again_at words (Words head m) = differs words head
again_at words (RowValue head m) = differs words head
again_at words (Link m) = link_again words m.at m.from
again_at words (Ends m) = 0
again_at words (Rests hand) = 0

-- of a try so many are allowed to the end of the machine as leave the rest
abbrev pub one_key_limits : Layout → Place → List ℕ → Limits HeldOp
one_key_limits l p free = record {
  opens = λ o. Opens l p free o;
  behind = λ words op. rest_at op.at + again_at words op.at;
  bound = Some most_events;
  allowed = λ view op. most_events - rest_at op.at;
}

-- over each layout of one row, with each placement and each list of free rows, its counts and its bounds are kept
pub record OneKeyIsBounded : Type 0 where
  pub counts : (l : Layout) (p : Place) (free : List ℕ) → KeepsCounts (one_key_crew l free) p free
  pub limits : (l : Layout) (p : Place) (free : List ℕ) → IsSmall l → KeepsLimits (one_key_crew l free) l p free (one_key_limits l p free)
