-- What is wanted of the run of a trace, on the structure that it names.
use Rattle.std.specs.Prelude.{ℕ, List}
use Rattle.flit_model.specs.declared.found.Recovered.{Recovered}
use Rattle.flit_trace.specs.Contents.{Content}
use Rattle.flit_trace.specs.Grammar.{IsTrace}
use Rattle.flit_trace.specs.SeenTraces.{SeenTrace, Shows, IsReadAs}
use Rattle.flit_structures.specs.Runs.{IsToldOf}
use Rattle.flit_structures.specs.Structures.{structure_in}
use Rattle.flit_structures.specs.declared.runs.Wanted.{Wanted}

-- whatever trace is seen, this text is what is wanted of its run on the structure that it names
abbrev pub IsToldOfTrace : SeenTrace → Wanted → Recovered → List ℕ → Type 0
IsToldOfTrace trace wanted start text =
    (bytes : List ℕ) (t : Content) → IsTrace bytes t → Shows trace t →
    IsToldOf (structure_in t.head start.free.items).meaning t wanted start text

-- a trace is seen that was read
abbrev pub WasRead : SeenTrace → Type 0
WasRead trace = (bytes : List ℕ) × IsReadAs bytes trace
