-- How a command ends, and the exit status that stands for it.
use Rattle.std.specs.Prelude.{ℕ}
use Rattle.flit_statuses.specs.declared.status.Status.{Status}
use Rattle.flit_statuses.specs.declared.status.Status.TheVariants.{Done, Usage, BadTrace, Limit, BadImage, ReadFault, WriteFault, NoMemory}

abbrev pub code_of : Status → ℕ
code_of Done = 0
code_of Usage = 2
code_of (BadTrace line) = 3
code_of (Limit line limit) = 4
code_of (BadImage fault) = 5
code_of ReadFault = 6
code_of WriteFault = 7
code_of NoMemory = 8

-- the status says that nothing was written
abbrev pub WritesNothing : Status → Type 0
WritesNothing Done = ⊥
WritesNothing Usage = Unit {0}
WritesNothing (BadTrace line) = Unit {0}
WritesNothing (Limit line limit) = Unit {0}
WritesNothing (BadImage fault) = Unit {0}
WritesNothing ReadFault = Unit {0}
WritesNothing WriteFault = ⊥
WritesNothing NoMemory = Unit {0}
