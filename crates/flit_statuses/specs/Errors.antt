-- The status that stands for each error: of memory, of reading the input, of a trace, of an image's text, and of an image.
use Rattle.flit_outside.specs.declared.input.InputError.{InputError}
use Rattle.flit_outside.specs.declared.input.InputError.TheVariants.{Fault, TooLong, NoMemory as No_input_memory}
use Rattle.flit_trace.specs.declared.faults.Bound.TheVariants.{Bytes}
use Rattle.flit_trace.specs.declared.faults.TraceError.{TraceError}
use Rattle.flit_trace.specs.declared.faults.TraceError.TheVariants as trace
use Rattle.flit_image.specs.declared.faults.ImageError.{ImageError}
use Rattle.flit_image.specs.declared.faults.ImageError.TheVariants.{NoMemory as No_text_memory}
use Rattle.flit_recover.specs.declared.found.Damage.{Damage as A_damage}
use Rattle.flit_recover.specs.declared.found.Damage.TheVariants.{NoMemory as No_walk_memory}
use Rattle.flit_statuses.specs.declared.status.ImageFault.TheVariants.{Text, Damage}
use Rattle.flit_statuses.specs.declared.status.Status.{Status}
use Rattle.flit_statuses.specs.declared.status.Status.TheVariants.{BadTrace, Limit, BadImage, ReadFault, NoMemory}

abbrev pub status_of_memory : Status
status_of_memory = NoMemory

-- an input past the limit on bytes is told at line 0
abbrev pub status_of_input : InputError → Status
status_of_input Fault = ReadFault
status_of_input TooLong = Limit 0 Bytes
status_of_input No_input_memory = NoMemory

abbrev pub status_of_trace : TraceError → Status
status_of_trace (trace.BadLine line) = BadTrace line
status_of_trace (trace.NoEnd line) = BadTrace line
status_of_trace (trace.Limit line limit) = Limit line limit
status_of_trace trace.NoMemory = NoMemory

abbrev pub status_of_text : ImageError → Status
status_of_text No_text_memory = NoMemory
status_of_text error = BadImage (Text error)

abbrev pub status_of_damage : A_damage → Status
status_of_damage No_walk_memory = NoMemory
status_of_damage d = BadImage (Damage d)
