-- The status that stands for a missing text says why it is missing.
use Rattle.std.proofs.Common.{ℕ, List, refl, inl, inr}
use Rattle.flit_recover.specs.declared.found.Damage.TheVariants.{TagSet, RowOutOfRange, KeyOrder, KeyPlace, Shared, BadEdge, NoMemory as No_walk_memory}
use Rattle.flit_trace.specs.declared.faults.TraceError.TheVariants.{BadLine, NoEnd, Limit, NoMemory as No_trace_memory}
use Rattle.flit_statuses.specs.Answers.{IsOfBytes}
use Rattle.flit_structures.specs.Refusals.{HasNoReport, status_of_no_text}
use Rattle.flit_structures.specs.Texts.{HasNoText}
use Rattle.flit_structures.specs.declared.texts.NoText.{NoText}
use Rattle.flit_structures.specs.declared.texts.NoText.TheVariants.{Trace, Unplayable, Start, NoMemory}

pub has_no_report : (bytes : List ℕ) (none : NoText) → HasNoText bytes none → HasNoReport bytes (status_of_no_text none)
has_no_report bytes (Trace (BadLine line)) h = inl h
has_no_report bytes (Trace (NoEnd line)) h = inr (inl h)
has_no_report bytes (Trace (Limit line limit)) h = h
has_no_report bytes (Trace No_trace_memory) h = tt
has_no_report bytes Unplayable h = inr (inr (refl, h))
has_no_report bytes (Start (TagSet word)) h = h
has_no_report bytes (Start (RowOutOfRange word)) h = h
has_no_report bytes (Start (KeyOrder row)) h = h
has_no_report bytes (Start (KeyPlace row)) h = h
has_no_report bytes (Start (Shared row)) h = h
has_no_report bytes (Start (BadEdge word)) h = h
has_no_report bytes (Start No_walk_memory) h = tt
has_no_report bytes NoMemory h = tt

-- it is one that bytes may have
pub of_bytes : (none : NoText) → IsOfBytes (status_of_no_text none)
of_bytes (Trace (BadLine line)) = tt
of_bytes (Trace (NoEnd line)) = tt
of_bytes (Trace (Limit line limit)) = tt
of_bytes (Trace No_trace_memory) = tt
of_bytes Unplayable = tt
of_bytes (Start (TagSet word)) = tt
of_bytes (Start (RowOutOfRange word)) = tt
of_bytes (Start (KeyOrder row)) = tt
of_bytes (Start (KeyPlace row)) = tt
of_bytes (Start (Shared row)) = tt
of_bytes (Start (BadEdge word)) = tt
of_bytes (Start No_walk_memory) = tt
of_bytes NoMemory = tt
