-- The list that is searched, over hashed slots: how many rows it has, and what recovery finds in its fresh words.
use Rattle.std.specs.Prelude.{◌≡◌, ℕ, false}
use Rattle.flit_words.specs.declared.limits.TheConstants.{GREATEST_VERSION}
use Rattle.flit_words.specs.declared.layouts.Layout.{Layout}
use Rattle.flit_words.specs.declared.layouts.Kind.TheVariants.{List as List_kind}
use Rattle.flit_model.specs.States.{fresh_words}
use Rattle.flit_model.specs.declared.found.Recovered.{Recovered}
use Rattle.flit_structure.specs.Meanings.{Meaning}
use Rattle.flit_list_steps.specs.Operations.{HeldOp}
use Rattle.flit_list_structure.specs.ListStructure.{lists}
use Rattle.flit_list.specs.declared.lists.List.{List}
use Rattle.flit_hashed.specs.declared.Hashed.{Hashed}
use Rattle.flit_sched.specs.Openings.{opening_at}
use Rattle.flit_speed.specs.Benches.{hashed}

-- a list of so many rows without values, for one worker
abbrev pub long_list : ℕ → Layout
long_list rows = record { kind = List_kind; buckets = 1; rows = rows; slots = 8; workers = 1; limit = GREATEST_VERSION; values = false }

abbrev pub searched : List Hashed → Meaning HeldOp
searched s = lists s.layout (hashed s.place.slots) s.pool

-- the list may be opened at what recovery found in its fresh words
pub record IsListStart (rows : ℕ) (s : List Hashed) (start : Recovered) : Type 0 where
  pub layout : s.layout ≡ long_list rows
  pub words : start.image.words.items ≡ fresh_words (long_list rows)
  pub opens : (searched s).opens (opening_at start)
