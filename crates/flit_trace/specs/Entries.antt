-- A call or evict line as the index keeps it.
use Rattle.std.specs.Prelude.{ℕ}
use Rattle.flit_model.specs.declared.calls.Call.TheVariants as call
use Rattle.flit_model.specs.declared.calls.Item.{Item}
use Rattle.flit_model.specs.declared.calls.Item.TheVariants as item
use Rattle.flit_trace.specs.declared.entries.Action.{Action}
use Rattle.flit_trace.specs.declared.entries.Action.TheVariants.{Insert, Remove, Contains, Get, Evict}
use Rattle.flit_trace.specs.declared.entries.Entry.{Entry}

-- the item of an action with a key or a word and a value
abbrev pub item_with : Action → ℕ → ℕ → Item
item_with Insert subject value = item.Call (call.Insert subject value)
item_with Remove subject value = item.Call (call.Remove subject)
item_with Contains subject value = item.Call (call.Contains subject)
item_with Get subject value = item.Call (call.Get subject)
item_with Evict subject value = item.Evict subject

abbrev pub item_of : Entry → Item
item_of e = item_with e.action e.subject e.value

-- the line that an entry keeps
abbrev pub numbered : Entry → ℕ × Item
numbered e = (e.line, item_of e)
