-- A list or a hash table as a structure: what its calls mean, over its layout, its placement and its pool.
use Rattle.std.specs.Prelude.{Bool, true, false}
use Rattle.flit_place.specs.Tags.{Place}
use Rattle.flit_structure.specs.Meanings.{Meaning}
use Rattle.flit_structure.specs.Lawful.{Lawful, Wrappable}
use Rattle.flit_list_steps.specs.Operations.{At, Head, Next, Key, Confirming, Help, Row, Words, RowValue, Link, Mark, Tidy, Value, Ends, Rests, HeldOp}
use Rattle.flit_list_structure.specs.ListStructure.{lists}
use Rattle.flit_list_structure.proofs.Lawfulness.{list_lawful, list_wrappable}
use Rattle.flit_list.specs.declared.lists.List.{List}

abbrev pub list_of : {P : Type 0} → (P → Place) → List P → Meaning HeldOp
list_of place_of s = lists s.layout (place_of s.place) s.pool

pub list_is_lawful : {P : Type 0} (place_of : P → Place) (s : List P) → Lawful (list_of place_of s)
list_is_lawful place_of s = list_lawful s.layout (place_of s.place) s.pool s.chains

pub list_is_wrappable : {P : Type 0} (place_of : P → Place) (s : List P) → Wrappable (list_of place_of s)
list_is_wrappable place_of s = list_wrappable s.layout (place_of s.place) s.pool s.chains

-- from here on a call may still write a link that has its hand's row or name in it
abbrev pub may_write_link : At → Bool
may_write_link (Head m) = true
may_write_link (Next m) = true
may_write_link (Key m) = true
may_write_link (Confirming goal which m) = true
may_write_link (Help m) = true
may_write_link (Row m) = true
may_write_link (Words m) = true
may_write_link (RowValue m) = true
may_write_link (Link m) = false
may_write_link (Mark m) = false
may_write_link (Tidy m) = false
may_write_link (Value m) = false
may_write_link (Ends m) = false
may_write_link (Rests hand) = false
