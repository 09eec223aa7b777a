-- How a run is opened: at what recovery found, with the works of its workers.
use Rattle.std.specs.Prelude.{◌≡◌, ℕ, ◌+◌, ◌<◌, ◌≤◌, Bool, true, false, List, [], ◌∷◌, length, map, zip, Option, Some, None, slice_get}
use Rattle.std.specs.List.{AllByRecursion}
use Rattle.std.specs.FinMap as map_of_pairs
use Rattle.flit_words.specs.declared.limits.TheConstants.{MOST_CALLS}
use Rattle.flit_words.specs.declared.layouts.Layout.{Layout}
use Rattle.flit_words.specs.Layouts.{words_of}
use Rattle.flit_model.specs.Maps.{Map}
use Rattle.flit_model.specs.States.{state_from}
use Rattle.std.specs.List.Sorted.{IsStrictlyIncreasing}
use Rattle.flit_model.specs.Settling.{nothing_made}
use Rattle.flit_model.specs.declared.calls.Item.{Item}
use Rattle.flit_model.specs.declared.calls.Item.TheVariants.{Call as Call_item, Evict as Evict_item}
use Rattle.flit_model.specs.declared.calls.Outcome.{Outcome}
use Rattle.flit_model.specs.declared.calls.Outcome.TheVariants.{Stopped}
use Rattle.flit_model.specs.declared.calls.Work.{Work}
use Rattle.flit_model.specs.declared.found.Recovered.{Recovered}
use Rattle.flit_structure.specs.Moments.{Opening, hired}
use Rattle.flit_structure.specs.Meanings.{Meaning, IsServed}
use Rattle.flit_sched.specs.Runs.{Part, Run}

-- the map of keys to their values
abbrev pub content_of : List ℕ → List ℕ → Map
content_of keys values = map_of_pairs.from_entries (zip keys values)

-- what recovery found, as an opening
abbrev pub opening_at : Recovered → Opening
opening_at r = record { words = r.image.words.items; content = content_of r.keys.items r.values.items; free = r.free.items }

-- the keys rise and each has a value
pub record IsBookOf (r : Recovered) : Type 0 where
  pub rising : IsStrictlyIncreasing r.keys.items
  pub same : length r.values.items ≡ length r.keys.items

-- an item that a layout serves
abbrev pub IsRightItem : Layout → Item → Type 0
IsRightItem l (Call_item call) = IsServed l call
IsRightItem l (Evict_item word) = word < words_of l

-- an item is a call; and the item at a place is an Evict
abbrev pub is_call : Item → Bool
is_call (Call_item call) = true
is_call (Evict_item word) = false

abbrev pub IsEvictAt : List Item → ℕ → Type 0
IsEvictAt items n = (word : ℕ) × (slice_get items n ≡ Some (Evict_item word))

-- how many items some works have together
abbrev pub item_count : List Work → ℕ
item_count [] = 0
item_count (w ∷ ws) = length w.items.items + item_count ws

-- one work for each worker, with at most so many items together, each right for the layout
pub record AreRight (l : Layout) (works : List Work) : Type 0 where
  pub workers : length works ≡ l.workers
  pub most : item_count works ≤ MOST_CALLS
  pub items : AllByRecursion (λ w. AllByRecursion (IsRightItem l) w.items.items) works

-- an item that nobody has begun; an Evict has no outcome
abbrev pub first_outcome : Item → Option Outcome
first_outcome (Call_item call) = Some Stopped
first_outcome (Evict_item word) = None

-- a worker that has done nothing
abbrev pub first_part : {Op : Type 0} → ℕ → Work → Part Op
first_part name w = record {
  worker = hired name;
  items = w.items.items;
  left = w.stop;
  over = 0;
  outcomes = map first_outcome w.items.items;
}

abbrev pub first_parts : {Op : Type 0} → ℕ → List Work → List (Part Op)
first_parts name [] = []
first_parts name (w ∷ ws) = first_part name w ∷ first_parts (name + 1) ws

-- the run before its first turn
abbrev pub opened_run : {Op : Type 0} → Meaning Op → Recovered → List Work → Run Op
opened_run meaning start works = record {
  content = content_of start.keys.items start.values.items;
  state = state_from meaning.layout start.image.words.items;
  progress = nothing_made;
  placed = [];
  parts = first_parts 1 works;
}
