-- Lists and hash tables as marked structures.
use Rattle.std.specs.Prelude.{ℕ}
use Rattle.flit_place.specs.Tags.{Place}
use Rattle.flit_list_steps.specs.Operations.{HeldOp}
use Rattle.flit_list.specs.declared.lists.List.{List}
use Rattle.flit_list.specs.Lists.{list_of}
use Rattle.flit_marked_laws.specs.Marked.{MarkedLaws}
use Rattle.flit_marked_laws.specs.ListMarks.{told_row}
use Rattle.flit_marked_laws.proofs.MarkedLists.{lists_are_marked}

abbrev pub told_by : {P : Type 0} → List P → HeldOp → ℕ
told_by s op = told_row op

pub list_is_marked : {P : Type 0} (place_of : P → Place) (s : List P) → MarkedLaws (list_of place_of s) (told_by s)
list_is_marked place_of s = lists_are_marked s.layout (place_of s.place) s.pool s.chains
