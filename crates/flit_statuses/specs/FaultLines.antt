-- The line on standard error that stands for a status: what went wrong, and where. Done has none.
use Rattle.std.specs.Prelude.{ℕ, List, ◌++◌, Option, Some, None, codes}
use Rattle.std.specs.Fmt.{decimal}
use Rattle.flit_trace.specs.declared.faults.Bound.{Bound}
use Rattle.flit_trace.specs.declared.faults.Bound.TheVariants.{Bytes, Rows, Workers, Calls, Buckets, Slots, Versions, Events}
use Rattle.flit_image.specs.declared.faults.ImageError.{ImageError}
use Rattle.flit_image.specs.declared.faults.ImageError.TheVariants.{BadHeader, BadLine, OutOfOrder, WordOutOfRange, Default, NoMemory as No_text_memory}
use Rattle.flit_recover.specs.declared.found.Damage.{Damage as A_damage}
use Rattle.flit_recover.specs.declared.found.Damage.TheVariants.{TagSet, RowOutOfRange, KeyOrder, KeyPlace, Shared, BadEdge, NoMemory as No_walk_memory}
use Rattle.flit_statuses.specs.declared.status.ImageFault.{ImageFault}
use Rattle.flit_statuses.specs.declared.status.ImageFault.TheVariants.{Text, Damage}
use Rattle.flit_statuses.specs.declared.status.Status.{Status}
use Rattle.flit_statuses.specs.declared.status.Status.TheVariants.{Done, Usage, BadTrace, Limit, BadImage, ReadFault, WriteFault, NoMemory}

-- what there may be too much of, as the line names it
abbrev pub limit_name : Bound → List ℕ
limit_name Bytes = codes "bytes"
limit_name Rows = codes "rows"
limit_name Workers = codes "workers"
limit_name Calls = codes "calls"
limit_name Buckets = codes "buckets"
limit_name Slots = codes "slots"
limit_name Versions = codes "versions"
limit_name Events = codes "events"

-- the number that stands for the kind of a damage, and the word or the row where it is
abbrev pub damage_number : A_damage → ℕ
damage_number (TagSet word) = 1
damage_number (RowOutOfRange word) = 2
damage_number (KeyOrder row) = 3
damage_number (KeyPlace row) = 4
damage_number (Shared row) = 5
damage_number (BadEdge word) = 6
damage_number No_walk_memory = 7

abbrev pub damage_place : A_damage → ℕ
damage_place (TagSet word) = word
damage_place (RowOutOfRange word) = word
damage_place (KeyOrder row) = row
damage_place (KeyPlace row) = row
damage_place (Shared row) = row
damage_place (BadEdge word) = word
damage_place No_walk_memory = 0

-- the line of a fault of an image's text, which has a number of its kind, and of its line where it has one
abbrev pub text_fault_line : ImageError → List ℕ
text_fault_line BadHeader = codes "flit: bad image: text 1"
text_fault_line (BadLine line) = codes "flit: bad image: text 2 line " ++ decimal line
text_fault_line (OutOfOrder line) = codes "flit: bad image: text 3 line " ++ decimal line
text_fault_line (WordOutOfRange line) = codes "flit: bad image: text 4 line " ++ decimal line
text_fault_line (Default line) = codes "flit: bad image: text 5 line " ++ decimal line
text_fault_line No_text_memory = codes "flit: no memory"

-- the line of a damage, with its number and its place
abbrev pub damage_line : A_damage → List ℕ
damage_line No_walk_memory = codes "flit: no memory"
damage_line d = codes "flit: bad image: damage " ++ decimal (damage_number d) ++ codes " at " ++ decimal (damage_place d)

abbrev pub image_fault_line : ImageFault → List ℕ
image_fault_line (Text error) = text_fault_line error
image_fault_line (Damage d) = damage_line d

-- the line of a status, without its end
abbrev pub line_of : Status → Option (List ℕ)
line_of Done = None
line_of Usage = Some (codes "flit: usage")
line_of (BadTrace line) = Some (codes "flit: bad trace at line " ++ decimal line)
line_of (Limit line limit) = Some (codes "flit: limit " ++ limit_name limit ++ codes " at line " ++ decimal line)
line_of (BadImage fault) = Some (image_fault_line fault)
line_of ReadFault = Some (codes "flit: read fault")
line_of WriteFault = Some (codes "flit: write fault")
line_of NoMemory = Some (codes "flit: no memory")
