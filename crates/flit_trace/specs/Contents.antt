-- What a trace tells beside the numbers of its head, and what a caller sees of it.
use Rattle.std.specs.Prelude.{ℕ, ◌+◌, ◌-◌, ◌/◌, ◌==◌, Bool, true, false, Option, Some, None, List, [], ◌∷◌, ◌++◌, map, filter, length, if◌then◌else◌}
use Rattle.std.specs.List.{range_with_len}
use Rattle.flit_words.specs.declared.layouts.Kind.{Kind}
use Rattle.flit_words.specs.declared.layouts.Layout.{Layout}
use Rattle.flit_words.specs.Layouts.{words_of, initial_of}
use Rattle.flit_model.specs.declared.calls.Call.TheVariants as call
use Rattle.flit_model.specs.declared.calls.Item.{Item}
use Rattle.flit_model.specs.declared.calls.Item.TheVariants as item
use Rattle.flit_trace.specs.declared.heads.Head.{Head}
use Rattle.flit_trace.specs.declared.heads.Place.{Place}
use Rattle.flit_trace.specs.declared.heads.Place.TheVariants.{Adjacent, Hashed, Packed, Lines}
use Rattle.flit_trace.specs.declared.sentences.Sentence.{Sentence}
use Rattle.flit_trace.specs.declared.sentences.Sentence.TheVariants as line
use Rattle.flit_trace.specs.declared.drafts.Draft.{Draft}

-- a call or evict line: its number, its worker and what it asks for
pub record ItemLine : Type 0 where
  pub line : ℕ
  pub worker : ℕ
  pub item : Item

-- what the lines so far tell: the call and evict lines and the turns, in line order, the words ahead, and the words of the
-- start image
pub record Contents : Type 0 where
  pub items : List ItemLine
  pub turns : List (ℕ × ℕ)
  pub all_ahead : Bool
  pub ahead : List ℕ
  pub words : List ℕ

abbrev pub nothing : Contents
nothing = record {
  items = [];
  turns = [];
  all_ahead = false;
  ahead = [];
  words = [];
}

-- an insert of version 1 has the value 0
abbrev pub value_or_0 : Option ℕ → ℕ
value_or_0 (Some v) = v
value_or_0 None = 0

abbrev pub with_item : Contents → ℕ → ℕ → Item → Contents
with_item t n worker i = record t { items = t.items ++ record { line = n; worker = worker; item = i } ∷ [] }

-- words with the fresh ones behind them, up to a word
abbrev pub filled : Kind → ℕ → List ℕ → List ℕ
filled kind until words = words ++ map (initial_of kind) (range_with_len (length words) (until - length words))

-- what is told with line n, which says this; a start image has a word for each word of the trace's layout
abbrev pub told_with : Layout → ℕ → Sentence → Contents → Contents
told_with l n (line.Insert worker key value) t = with_item t n worker (item.Call (call.Insert key (value_or_0 value)))
told_with l n (line.Remove worker key) t = with_item t n worker (item.Call (call.Remove key))
told_with l n (line.Contains worker key) t = with_item t n worker (item.Call (call.Contains key))
told_with l n (line.Get worker key) t = with_item t n worker (item.Call (call.Get key))
told_with l n (line.Evict worker word) t = with_item t n worker (item.Evict word)
told_with l n (line.Turn worker events) t = record t { turns = t.turns ++ (worker, events) ∷ [] }
told_with l n (line.Ahead word) t = record t { ahead = t.ahead ++ word ∷ [] }
told_with l n line.AheadAll t = record t { all_ahead = true }
told_with l n (line.Word word raw) t = record t { words = filled l.kind word t.words ++ raw ∷ [] }
told_with l n line.Begin t = record t { words = filled l.kind (words_of l) t.words }
told_with l n _ t = t

-- how many slots a place has
abbrev pub slots_of : Place → ℕ → ℕ
slots_of Adjacent words = words
slots_of (Hashed n) words = n
slots_of Packed words = 0
slots_of Lines words = (words + 7) / 8

abbrev pub head_of : Draft → Head
head_of d = record { layout = record d.layout { slots = slots_of d.place (words_of d.layout) }; place = d.place }

-- what a trace is. The stop points stand at their workers' places, worker 1 first; where every word is named none is listed
pub record Content : Type 0 where
  pub head : Head
  pub items : List ItemLine
  pub stops : List (Option ℕ)
  pub turns : List (ℕ × ℕ)
  pub all_ahead : Bool
  pub ahead : List ℕ
  pub start : Option (List ℕ)

abbrev pub content_of : Draft → Contents → Content
content_of d t = record {
  head = head_of d;
  items = t.items;
  stops = d.stops;
  turns = t.turns;
  all_ahead = t.all_ahead;
  ahead = if t.all_ahead then [] else t.ahead;
  start = if d.has_start then Some t.words else None;
}

-- a worker's script: its lines, each with its number
abbrev pub script_of : List ItemLine → ℕ → List (ℕ × Item)
script_of items worker = map (λ i. (i.line, i.item)) (filter (λ i. i.worker == worker) items)

-- the lines that are calls
abbrev pub is_call : Item → Bool
is_call (item.Call c) = true
is_call (item.Evict word) = false

abbrev pub calls_of : List ItemLine → List ItemLine
calls_of items = filter (λ i. is_call i.item) items
