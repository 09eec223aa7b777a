-- What the lines of a trace are taken from, and what is known at the outset of its run.
use Rattle.std.specs.Prelude.{◌≡◌, ℕ, List}
use Rattle.flit_model.specs.Recovery.{IsRecovery}
use Rattle.flit_model.specs.declared.found.Recovered.{Recovered}
use Rattle.flit_structure.specs.Meanings.{Meaning}
use Rattle.flit_table.specs.Steps.{Home, meaning_of}
use Rattle.flit_table.specs.Views.{opening_at}
use Rattle.flit_table.specs.declared.passes.Pass.{Pass}
use Rattle.flit_table.specs.declared.told.Known.{Known}
use Rattle.flit_trace.specs.Contents.{Content}
use Rattle.flit_trace.specs.Heads.{IsRightHead}
use Rattle.flit_trace.specs.SeenTraces.{SeenTrace, Shows, IsReadAs}
use Rattle.flit_step_reports.specs.StepReports.{AreWorksOf}
use Rattle.flit_run_runs.specs.Plays.{IsReadyFor}
use Rattle.flit_structures.specs.Starts.{StartsSeen}
use Rattle.flit_structures.specs.Structures.{IsPlayable}
use Rattle.flit_structures.specs.Texts.{HasNoText}
use Rattle.flit_structures.specs.declared.texts.NoText.{NoText}
use Rattle.flit_run_structures.specs.Runs.{RunsSeen}
use Rattle.flit_run_structures.specs.Texts.{IsWantedSeen}
use Rattle.flit_run_structures.specs.declared.runs.Wanted.{Wanted}
use Rattle.flit_run_structures.specs.declared.sources.Outset.{Outset}
use Rattle.flit_run_structures.specs.declared.sources.ReadTrace.{ReadTrace}
use Rattle.flit_run_structures.specs.declared.sources.Source.{Source}
use Rattle.flit_run_structures.specs.declared.sources.Source.TheVariants.{Read, Unread}

-- the works of a trace that was read are its own
abbrev pub HasItsWorks : ReadTrace → Type 0
HasItsWorks read = (t : Content) → Shows read.trace t → AreWorksOf t read.works.items

-- bytes are what a source is of: its trace was read from them, with its works; or they are still to be read
abbrev pub IsSourceOf : List ℕ → Source → Type 0
IsSourceOf bytes (Read read) = IsReadAs bytes read.trace × HasItsWorks read
IsSourceOf bytes (Unread text) = text.items ≡ bytes

-- a trace is taken from a source: it was read before, or the bytes are read as it
abbrev pub IsTakenFrom : Source → SeenTrace → Type 0
IsTakenFrom (Read read) taken = taken ≡ read.trace
IsTakenFrom (Unread text) taken = IsReadAs text.items taken

-- At the outset of a run the head is right and is played, and recovery has found the start in words of its layout. Whatever trace
-- is taken from the source has this head, and starts there.
pub record IsOutset (o : Outset) : Type 0 where
  pub bytes : List ℕ
  pub of : IsSourceOf bytes o.source
  pub right : IsRightHead o.head
  pub playable : IsPlayable o.head
  pub recovery : IsRecovery o.head.layout o.start.image.words.items o.start.keys.items o.start.values.items o.start.free.items
  pub heads : (trace : SeenTrace) → IsTakenFrom o.source trace → trace.head ≡ o.head
  pub starts : (trace : SeenTrace) → IsTakenFrom o.source trace → StartsSeen trace o.start

-- A structure opens at what recovery found; and whatever trace is taken from the source starts there, and its works can be run on
-- the structure.
pub record RunsSource {Op : Type 0} (meaning : Meaning Op) (start : Recovered) (source : Source) : Type 0 where
  pub bytes : List ℕ
  pub of : IsSourceOf bytes source
  pub opens : meaning.opens (opening_at start)
  pub starts : (trace : SeenTrace) → IsTakenFrom source trace → StartsSeen trace start
  pub runs : (trace : SeenTrace) → IsTakenFrom source trace → RunsSeen meaning start trace

-- a running structure is ready for a trace that was read: it was opened where the trace starts, and the trace's works can be run on it
module _ {S Op : Type 0} (meanings : S → Meaning Op) (home : Home S) where
  pub record IsReadyRun (pass : Pass S Op) (read : ReadTrace) : Type 0 where
    pub starts : StartsSeen read.trace home.origin.start.value
    pub runs : RunsSeen (meaning_of meanings home) home.origin.start.value read.trace
    pub ready : IsReadyFor meanings home pass read.trace read.works.items

-- of a trace that is taken from the source this is the text that is wanted
pub record IsTextFrom (source : Source) (wanted : Wanted) (k : Known) (text : List ℕ) : Type 0 where
  pub trace : SeenTrace
  pub taken : IsTakenFrom source trace
  pub is : IsWantedSeen wanted trace k text

-- whatever bytes the source is of, this is why there is no text
abbrev pub HasNoTextFrom : Source → NoText → Type 0
HasNoTextFrom source none = (bytes : List ℕ) → IsSourceOf bytes source → HasNoText bytes none
