-- The works of a trace on the structure that it names.
use Rattle.std.specs.Prelude.{ℕ, List}
use Rattle.flit_model.specs.declared.found.Recovered.{Recovered}
use Rattle.flit_structure.specs.Meanings.{Meaning}
use Rattle.flit_trace.specs.Contents.{Content}
use Rattle.flit_trace.specs.Grammar.{IsTrace}
use Rattle.flit_trace.specs.SeenTraces.{SeenTrace, Shows}
use Rattle.flit_step_reports.specs.StepReports.{StartsAt}
use Rattle.flit_run_runs.specs.Plays.{CanRun}
use Rattle.flit_structures.specs.Structures.{structure_in, IsPlayable}

-- the works of a trace can be run on the structure that it names, from what recovery finds where the trace starts
abbrev pub TracesRun : Type 0
TracesRun =
    (bytes : List ℕ) (t : Content) (start : Recovered) → IsTrace bytes t → IsPlayable t.head → StartsAt t start →
    CanRun (structure_in t.head start.free.items).meaning start t

-- whatever trace is seen, its works can be run on this structure
abbrev pub RunsSeen : {Op : Type 0} → Meaning Op → Recovered → SeenTrace → Type 0
RunsSeen meaning start trace = (bytes : List ℕ) (t : Content) → IsTrace bytes t → Shows trace t → CanRun meaning start t
