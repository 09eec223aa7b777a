-- The trace that the generator's text is, and the laws of its calls.
use Rattle.std.specs.Prelude.{◌≡◌, ℕ, suc, ◌+◌, ◌%◌, ◌≤◌, false, None, List, [], ◌∷◌, replicate, Contains}
use Rattle.flit_words.specs.declared.layouts.Kind.TheVariants.{Hash}
use Rattle.flit_words.specs.declared.layouts.Layout.{Layout}
use Rattle.flit_words.specs.Layouts.{words_of}
use Rattle.flit_words.specs.declared.limits.TheConstants.{GREATEST_VERSION, MOST_WORKERS}
use Rattle.flit_model.specs.declared.calls.Call.{Call}
use Rattle.flit_model.specs.declared.calls.Item.TheVariants as item
use Rattle.flit_trace.specs.declared.heads.Place.TheVariants.{Adjacent}
use Rattle.flit_trace.specs.Contents.{Content, ItemLine}
use Rattle.flit_trace.specs.Grammar.{IsTrace}
use Rattle.flit_generator.specs.Generator.{rows_of, generated_calls, AreTaken, key_in, generated_text}

-- a hash table of 256 buckets with so many slots
abbrev pub layout_with : ℕ → ℕ → ℕ → Layout
layout_with rows workers slots = record {
  kind = Hash;
  buckets = 256;
  rows = rows;
  slots = slots;
  workers = workers;
  limit = GREATEST_VERSION;
  values = false;
}

-- the calls on their lines, the first of them on line n
abbrev pub lines_from : ℕ → List (ℕ × Call) → List ItemLine
lines_from n [] = []
lines_from n (c ∷ cs) = record { line = n; worker = c.0; item = item.Call c.1 } ∷ lines_from (suc n) cs

-- each worker's script is its calls; there is a counter beside each word, and nothing else is told
abbrev pub generated_content : ℕ → ℕ → ℕ → ℕ → Content
generated_content seed calls keys workers = record {
  head = record {
    layout = layout_with (rows_of calls workers) workers (words_of (layout_with (rows_of calls workers) workers 0));
    place = Adjacent;
  };
  items = lines_from 6 (generated_calls seed calls keys workers);
  stops = replicate MOST_WORKERS None;
  turns = [];
  all_ahead = false;
  ahead = [];
  start = None;
}

-- the text of the generator is a trace, and this is its content
abbrev pub MakesTraces : Type 0
MakesTraces = (seed calls keys workers : ℕ) → AreTaken seed calls keys workers →
    IsTrace (generated_text seed calls keys workers) (generated_content seed calls keys workers)

-- each call's worker is the rest of its key by the number of workers, plus 1
abbrev pub TellsWorkers : Type 0
TellsWorkers = (seed calls keys workers : ℕ) (c : ℕ × Call) → 1 ≤ workers → Contains (generated_calls seed calls keys workers) c →
    c.0 ≡ key_in c.1 % workers + 1

-- calls on one key are calls of one worker
abbrev pub SharesNoKey : Type 0
SharesNoKey = (seed calls keys workers : ℕ) (c d : ℕ × Call) → 1 ≤ workers → Contains (generated_calls seed calls keys workers) c →
    Contains (generated_calls seed calls keys workers) d → key_in c.1 ≡ key_in d.1 → c.0 ≡ d.0
