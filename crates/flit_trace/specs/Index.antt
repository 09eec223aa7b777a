-- What the index keeps of the lines that were read.
use Rattle.std.specs.Prelude.{◌≡◌, ℕ, ◌-◌, ◌^◌, ◌<◌, ◌≤◌, List, [], map, slice_index_or}
use Rattle.flit_words.specs.declared.limits.TheConstants.{MOST_WORKERS}
use Rattle.flit_model.specs.declared.calls.Item.{Item}
use Rattle.flit_trace.specs.declared.entries.Entry.{Entry}
use Rattle.flit_trace.specs.declared.index.Index.{Index}
use Rattle.flit_trace.specs.declared.sentences.Sentence.{Sentence}
use Rattle.flit_trace.specs.declared.sentences.Sentence.TheVariants.{Insert, Remove, Contains, Get, Evict, Turn, Ahead, Word}
use Rattle.flit_trace.specs.Contents.{Contents, value_or_0, script_of}
use Rattle.flit_trace.specs.Entries.{numbered}

-- the entries of each worker's script, worker 1 first
abbrev pub script_in : List (List Entry) → ℕ → List (ℕ × Item)
script_in scripts worker = map numbered (slice_index_or scripts (worker - 1) [])

-- the index keeps just what was told
pub record IsIndexOf (x : Index) (t : Contents) : Type 0 where
  pub scripts : (worker : ℕ) → 1 ≤ worker → worker ≤ MOST_WORKERS → script_in (map (λ v. v.items) x.scripts.items) worker ≡ script_of t.items worker
  pub turns : x.turns.items ≡ t.turns
  pub all_ahead : x.all_ahead ≡ t.all_ahead
  pub ahead : x.ahead.items ≡ t.ahead
  pub words : x.words.items ≡ t.words

-- the line's numbers are within their types, and its worker is at most MOST_WORKERS
abbrev pub HasNumbers : Sentence → Type 0
HasNumbers (Insert worker key value) = (1 ≤ worker) × (worker ≤ MOST_WORKERS) × (key < 2 ^ 32) × (value_or_0 value < 2 ^ 32)
HasNumbers (Remove worker key) = (1 ≤ worker) × (worker ≤ MOST_WORKERS) × (key < 2 ^ 32)
HasNumbers (Contains worker key) = (1 ≤ worker) × (worker ≤ MOST_WORKERS) × (key < 2 ^ 32)
HasNumbers (Get worker key) = (1 ≤ worker) × (worker ≤ MOST_WORKERS) × (key < 2 ^ 32)
HasNumbers (Evict worker word) = (1 ≤ worker) × (worker ≤ MOST_WORKERS) × (word < 2 ^ 32)
HasNumbers (Turn worker events) = worker ≤ MOST_WORKERS
HasNumbers (Ahead word) = word < 2 ^ 32
HasNumbers (Word word raw) = word < 2 ^ 32
HasNumbers _ = Unit {0}
