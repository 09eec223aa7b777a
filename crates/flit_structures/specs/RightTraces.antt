-- Bytes that are a right trace, which no command has a reason to refuse.
use Rattle.std.specs.Prelude.{◌≡◌, ℕ, ◌≤◌, List, length, Option, Some}
use Rattle.flit_words.specs.declared.limits.TheConstants.{MOST_BYTES}
use Rattle.flit_model.specs.Images.{IsLawful}
use Rattle.flit_outside.specs.Outside.{Rose}
use Rattle.flit_trace.specs.Contents.{Content}
use Rattle.flit_trace.specs.Grammar.{IsTrace}
use Rattle.flit_step_reports.specs.StepReports.{start_words}
use Rattle.flit_statuses.specs.declared.status.Status.{Status}
use Rattle.flit_statuses.specs.declared.status.Status.TheVariants.{NoMemory}
use Rattle.flit_structures.specs.Refusals.{HasNoReport}
use Rattle.flit_structures.specs.Starts.{words_layout}
use Rattle.flit_structures.specs.Structures.{IsPlayable}

-- the bytes are within the limit, and a trace that is played, with lawful words at its start
pub record IsRightTrace (bytes : List ℕ) : Type 0 where
  pub content : Content
  pub short : length bytes ≤ MOST_BYTES
  pub trace : IsTrace bytes content
  pub playable : IsPlayable content.head
  pub lawful : IsLawful (words_layout content.head.layout) (start_words content)

-- where they have no answer, there was no memory
abbrev pub RightTracesAreAnswered : Type 0
RightTracesAreAnswered = (bytes : List ℕ) (status : Status) → IsRightTrace bytes → HasNoReport bytes status → status ≡ NoMemory

-- A command has no reason to refuse: its words want something of it, the input is told and is a right trace, and no count of
-- faults rose.
pub record CanComplete {Wanted : Type 0} (words_for : Wanted → List (List ℕ)) (words : List (List ℕ)) (input : Option (List ℕ))
    (reads_before reads_after writes_before writes_after : ℕ) : Type 0 where
  pub wanted : Wanted
  pub words_are : words ≡ words_for wanted
  pub bytes : List ℕ
  pub told : input ≡ Some bytes
  pub right : IsRightTrace bytes
  pub read : ¬ (Rose reads_before reads_after)
  pub written : ¬ (Rose writes_before writes_after)
