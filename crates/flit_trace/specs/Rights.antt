-- What is so of the call, evict and turn lines of a trace.
use Rattle.std.specs.Prelude.{◌≡◌, ℕ, ◌<◌, ◌≤◌, true, false, List, map}
use Rattle.flit_words.specs.declared.layouts.Layout.{Layout}
use Rattle.flit_words.specs.Layouts.{words_of}
use Rattle.flit_words.specs.declared.limits.TheConstants.{GREATEST_KEY, GREATEST_VALUE}
use Rattle.flit_model.specs.declared.calls.Call.{Call}
use Rattle.flit_model.specs.declared.calls.Call.TheVariants as call
use Rattle.flit_model.specs.declared.calls.Item.{Item}
use Rattle.flit_model.specs.declared.calls.Item.TheVariants as item
use Rattle.flit_trace.specs.Contents.{ItemLine}

-- the key and the value are within their limits; without values an insert has 0, and there is no get
abbrev pub IsRightCall : Layout → Call → Type 0
IsRightCall l (call.Insert key value) = (key ≤ GREATEST_KEY) × (value ≤ GREATEST_VALUE) × (l.values ≡ false → value ≡ 0)
IsRightCall l (call.Remove key) = key ≤ GREATEST_KEY
IsRightCall l (call.Contains key) = key ≤ GREATEST_KEY
IsRightCall l (call.Get key) = (key ≤ GREATEST_KEY) × (l.values ≡ true)

-- the word of a write-back is one of the layout's
abbrev pub IsRightItem : Layout → Item → Type 0
IsRightItem l (item.Call c) = IsRightCall l c
IsRightItem l (item.Evict word) = word < words_of l

abbrev pub IsRightLine : Layout → ItemLine → Type 0
IsRightLine l i = (1 ≤ i.worker) × (i.worker ≤ l.workers) × IsRightItem l i.item

-- a turn line names one of the workers
abbrev pub IsRightTurn : Layout → ℕ × ℕ → Type 0
IsRightTurn l t = (1 ≤ t.0) × (t.0 ≤ l.workers)

-- the numbers of lines, and of the lines of a script
abbrev pub lines_of_items : List ItemLine → List ℕ
lines_of_items items = map (λ i. i.line) items

abbrev pub lines_of_script : List (ℕ × Item) → List ℕ
lines_of_script script = map (λ p. p.0) script
