-- From what recovery finds where a trace starts, its structure opens, and the trace can be played on it.
use Rattle.std.specs.Prelude.{ℕ, List}
use Rattle.flit_model.specs.declared.calls.Work.{Work}
use Rattle.flit_model.specs.Recovery.{IsRecovery}
use Rattle.flit_model.specs.declared.found.Recovered.{Recovered}
use Rattle.flit_sched.specs.Openings.{opening_at}
use Rattle.flit_histories.specs.Reached.{IsStart}
use Rattle.flit_trace.specs.Contents.{Content}
use Rattle.flit_trace.specs.Grammar.{IsTrace}
use Rattle.flit_trace.specs.Heads.{IsRightHead}
use Rattle.flit_trace.specs.declared.heads.Head.{Head}
use Rattle.flit_step_reports.specs.StepReports.{StartsAt, AreWorksOf}
use Rattle.flit_step_runs.specs.Plays.{CanPlay}
use Rattle.flit_structures.specs.Structures.{structure_in, IsPlayable}

-- the structure that a trace names may be opened at what recovery finds where the trace starts, with the trace's works
abbrev pub TracesOpen : Type 0
TracesOpen =
    (bytes : List ℕ) (t : Content) (start : Recovered) (works : List Work) → IsTrace bytes t → IsPlayable t.head → StartsAt t start →
    AreWorksOf t works → IsStart (structure_in t.head start.free.items).meaning start works

-- a trace can be played on the structure that it names, from what recovery finds where the trace starts
abbrev pub TracesPlay : Type 0
TracesPlay =
    (bytes : List ℕ) (t : Content) (start : Recovered) → IsTrace bytes t → IsPlayable t.head → StartsAt t start →
    CanPlay (structure_in t.head start.free.items).meaning start t

-- the structure that a head names may be opened at what recovery finds in words of its layout
abbrev pub HeadsOpen : Type 0
HeadsOpen =
    (head : Head) (start : Recovered) → IsRightHead head → IsPlayable head →
    IsRecovery head.layout start.image.words.items start.keys.items start.values.items start.free.items →
    (structure_in head start.free.items).meaning.opens (opening_at start)
