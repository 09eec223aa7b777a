-- The structure that a trace names: by its kind, over its layout, with its tags where the trace says, and with the rows that
-- are free at the start.
use Rattle.std.specs.Prelude.{◌≡◌, ◌≢◌, ℕ, ◌/◌, true, false, List, length, Some, None}
use Rattle.flit_words.specs.declared.layouts.Kind.{Kind}
use Rattle.flit_words.specs.declared.layouts.Kind.TheVariants.{List as List_kind, Hash, Tree}
use Rattle.flit_words.specs.declared.layouts.Layout.{Layout}
use Rattle.flit_place.specs.Tags.{Place}
use Rattle.flit_hashed.specs.Slots.{slot_in_table}
use Rattle.flit_trace.specs.declared.heads.Head.{Head}
use Rattle.flit_trace.specs.declared.heads.Place.{Place as Trace_place}
use Rattle.flit_trace.specs.declared.heads.Place.TheVariants.{Adjacent, Hashed, Packed, Lines}
use Rattle.flit_step_reports.specs.StepReports.{Known, Choice}
use Rattle.flit_list_steps.specs.Operations.{HeldOp as List_op}
use Rattle.flit_list_structure.specs.ListStructure.{lists}
use Rattle.flit_tree_steps.specs.Operations.{HeldOp as Tree_op}
use Rattle.flit_tree_structure.specs.TreeStructure.{trees}

-- where the tags of words are, by what a trace says: in a slot beside each word, in a slot of a table, in the word itself, or
-- in one slot for each line of eight words
abbrev pub placing_of : Trace_place → Place
placing_of Adjacent = record { counted = true; slot = Some }
placing_of (Hashed n) = record { counted = true; slot = λ word. Some (slot_in_table n word) }
placing_of Packed = record { counted = false; slot = λ word. None }
placing_of Lines = record { counted = true; slot = λ word. Some (word / 8) }

-- the structure of a kind
abbrev pub structure_of : Layout → Place → Kind → List ℕ → Known
structure_of l p List_kind free = record { Op = List_op; meaning = lists l p free }
structure_of l p Hash free = record { Op = List_op; meaning = lists l p free }
structure_of l p Tree free = record { Op = Tree_op; meaning = trees l p free }

-- a trace's own structure
abbrev pub structure_in : Choice
structure_in head free = structure_of head.layout (placing_of head.place) head.layout.kind free

-- a trace that is played; one with a slot for each line of eight words is not
abbrev pub IsPlayable : Head → Type 0
IsPlayable head = head.place ≢ Lines

-- A trace's own structure has the layout of the trace, and was made over just so many rows as are free at the start.
pub record RoomsAreFree : Type 0 where
  pub layout : (head : Head) (free : List ℕ) → (structure_in head free).meaning.layout ≡ head.layout
  pub room : (head : Head) (free : List ℕ) → (structure_in head free).meaning.room ≡ length free
