-- Why the bytes that should be a trace have no answer, as a status says it.
use Rattle.std.specs.Prelude.{◌≡◌, ◌⊎◌, ℕ, List}
use Rattle.flit_trace.specs.declared.faults.TraceError.TheVariants as fault
use Rattle.flit_trace.specs.Grammar.{IsTraceFault}
use Rattle.flit_statuses.specs.Errors.{status_of_trace, status_of_damage}
use Rattle.flit_statuses.specs.declared.status.ImageFault.TheVariants.{Text, Damage}
use Rattle.flit_statuses.specs.declared.status.Status.{Status}
use Rattle.flit_statuses.specs.declared.status.Status.TheVariants.{Done, Usage, BadTrace, Limit, BadImage, ReadFault, WriteFault, NoMemory}
use Rattle.flit_structures.specs.Texts.{IsUnplayable, HasStartDamage}
use Rattle.flit_structures.specs.declared.texts.NoText.{NoText}
use Rattle.flit_structures.specs.declared.texts.NoText.TheVariants.{Trace, Unplayable, Start, NoMemory as No_text_memory}

-- the status that stands for it; a trace that isn't played is told at line 0
abbrev pub status_of_no_text : NoText → Status
status_of_no_text (Trace error) = status_of_trace error
status_of_no_text Unplayable = BadTrace 0
status_of_no_text (Start damage) = status_of_damage damage
status_of_no_text No_text_memory = NoMemory

-- the bytes are no trace, and their first fault is at this line, from 1 on; or line 0 stands for a trace that isn't played, which
-- has a slot for each line of eight words
abbrev pub IsBadTrace : List ℕ → ℕ → Type 0
IsBadTrace bytes line =
    IsTraceFault bytes (fault.BadLine line) ⊎ (IsTraceFault bytes (fault.NoEnd line) ⊎ ((line ≡ 0) × IsUnplayable bytes))

-- why the bytes have no report: the trace is bad, a number is past its limit, its start image isn't lawful, or there was no memory
abbrev pub HasNoReport : List ℕ → Status → Type 0
HasNoReport bytes (BadTrace line) = IsBadTrace bytes line
HasNoReport bytes (Limit line limit) = IsTraceFault bytes (fault.Limit line limit)
HasNoReport bytes (BadImage (Damage damage)) = HasStartDamage bytes damage
HasNoReport bytes (BadImage (Text error)) = ⊥
HasNoReport bytes NoMemory = Unit {0}
HasNoReport bytes Done = ⊥
HasNoReport bytes Usage = ⊥
HasNoReport bytes ReadFault = ⊥
HasNoReport bytes WriteFault = ⊥
