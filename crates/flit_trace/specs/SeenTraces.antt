-- What a caller sees of a trace that was read.
use Rattle.std.specs.Prelude.{◌≡◌, ℕ, ◌-◌, ◌≤◌, Bool, Option, List, [], length, slice_index_or}
use Rattle.std.specs.List.{AllByRecursion}
use Rattle.flit_model.specs.declared.calls.Item.{Item}
use Rattle.flit_trace.specs.declared.heads.Head.{Head}
use Rattle.flit_trace.specs.Contents.{Content, script_of, calls_of}
use Rattle.flit_trace.specs.Grammar.{IsTrace}

-- the scripts stand in place of the lines, worker 1 first
pub record SeenTrace : Type 0 where
  pub head : Head
  pub calls : ℕ
  pub scripts : List (List (ℕ × Item))
  pub stops : List (Option ℕ)
  pub turns : List (ℕ × ℕ)
  pub all_ahead : Bool
  pub ahead : List ℕ
  pub start : Option (List ℕ)

abbrev pub script_at : SeenTrace → ℕ → List (ℕ × Item)
script_at t worker = slice_index_or t.scripts (worker - 1) []

-- the worker is one of the trace's
pub record IsWorker (t : SeenTrace) (worker : ℕ) : Type 0 where
  pub least : 1 ≤ worker
  pub most : worker ≤ t.head.layout.workers

-- this is the trace of before with no line in its scripts, and all else as it was
pub record IsWithoutScripts (before after : SeenTrace) : Type 0 where
  pub head : after.head ≡ before.head
  pub calls : after.calls ≡ before.calls
  pub scripts : AllByRecursion (λ script. script ≡ []) after.scripts
  pub stops : after.stops ≡ before.stops
  pub turns : after.turns ≡ before.turns
  pub all_ahead : after.all_ahead ≡ before.all_ahead
  pub ahead : after.ahead ≡ before.ahead
  pub start : after.start ≡ before.start

-- a trace of this content is seen
pub record Shows (t : SeenTrace) (c : Content) : Type 0 where
  pub head : t.head ≡ c.head
  pub calls : t.calls ≡ length (calls_of c.items)
  pub scripts : (worker : ℕ) → IsWorker t worker → script_at t worker ≡ script_of c.items worker
  pub stops : t.stops ≡ c.stops
  pub turns : t.turns ≡ c.turns
  pub all_ahead : t.all_ahead ≡ c.all_ahead
  pub ahead : t.ahead ≡ c.ahead
  pub start : t.start ≡ c.start

-- the bytes are a trace, and its content is seen
pub record IsReadAs (bytes : List ℕ) (t : SeenTrace) : Type 0 where
  pub content : Content
  pub is : IsTrace bytes content
  pub shows : Shows t content
