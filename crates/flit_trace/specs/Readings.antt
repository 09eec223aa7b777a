-- How the lines of a text are read, one after the other.
use Rattle.std.specs.Prelude.{◌≡◌, ℕ, true, List, length}
use Rattle.flit_words.specs.Layouts.{words_of}
use Rattle.flit_words.specs.declared.limits.TheConstants.{MOST_WORKERS}
use Rattle.flit_trace.specs.declared.faults.TraceError.{TraceError}
use Rattle.flit_trace.specs.declared.faults.TraceError.TheVariants.{BadLine, Limit, NoEnd, NoMemory}
use Rattle.flit_trace.specs.declared.drafts.Draft.{Draft}
use Rattle.flit_trace.specs.declared.index.Index.{Index}
use Rattle.flit_trace.specs.Contents.{Contents}
use Rattle.flit_trace.specs.Drafts.{is_ended, IsSound}
use Rattle.flit_trace.specs.Grammar.{Reading, beginning, IsLine, IsReadFrom, IsFaultFrom, IsRefused}
use Rattle.flit_trace.specs.Index.{IsIndexOf}

-- with line n an index of what was told becomes one of what is told then
abbrev pub LeadsTo : ℕ → Draft → Index → Contents → List ℕ → Draft → Index → Type 0
LeadsTo n d x t line e y =
    IsIndexOf x t → (u : Contents) × IsIndexOf y u × IsLine n (record { draft = d; told = t }) line (record { draft = e; told = u })

-- wherever the line leads from this draft, the draft there is that one
abbrev pub LeadsOnlyTo : Draft → List ℕ → Draft → Type 0
LeadsOnlyTo d line e = (n : ℕ) (t : Contents) (q : Reading) → IsLine n (record { draft = d; told = t }) line q → q.draft ≡ e

-- the line can't stand behind lines of this draft
abbrev pub CannotStand : Draft → List ℕ → Type 0
CannotStand d line = (n : ℕ) (t : Contents) (q : Reading) → ¬ IsLine n (record { draft = d; told = t }) line q

-- the error is the fault of line n, unless memory ran out
abbrev pub IsLineError : ℕ → Draft → List ℕ → TraceError → Type 0
IsLineError n d line NoMemory = Unit {0}
IsLineError n d line (BadLine m) = IsRefused n d line (BadLine m)
IsLineError n d line (Limit m bound) = IsRefused n d line (Limit m bound)
IsLineError n d line (NoEnd m) = IsRefused n d line (NoEnd m)

-- all lines were read to `end`, and the index is that of what they tell
pub record AreRead (lines : List (List ℕ)) (d : Draft) (x : Index) : Type 0 where
  pub told : Contents
  pub keeps : IsIndexOf x told
  pub read : IsReadFrom 1 beginning lines (record { draft = d; told = told })
  pub ended : is_ended d.stage ≡ true

-- the error is the first fault of the lines, unless memory ran out
abbrev pub AreFaulty : List (List ℕ) → TraceError → Type 0
AreFaulty lines NoMemory = Unit {0}
AreFaulty lines (BadLine m) = IsFaultFrom 1 beginning lines (BadLine m)
AreFaulty lines (Limit m bound) = IsFaultFrom 1 beginning lines (Limit m bound)
AreFaulty lines (NoEnd m) = IsFaultFrom 1 beginning lines (NoEnd m)

-- what is so of a draft and its index behind `end`
pub record IsReady (d : Draft) (x : Index) : Type 0 where
  pub sound : IsSound d
  pub whole : length x.scripts.items ≡ MOST_WORKERS
  pub valued : d.has_start ≡ true → d.layout.values ≡ true
  pub words : d.has_start ≡ true → length x.words.items ≡ words_of d.layout
