-- The trace grammar: which texts are traces and of what content, and the first fault of every other text.
use Rattle.std.specs.Prelude.{◌≡◌, ◌⊎◌, ℕ, suc, ◌<◌, ◌≤◌, ◌==◌, Bool, true, false, List, [], ◌∷◌, length}
use Rattle.std.specs.Str.{IsAscii}
use Rattle.flit_words.specs.Texts.{lines_of}
use Rattle.flit_words.specs.declared.limits.TheConstants.{MOST_BYTES}
use Rattle.flit_trace.specs.declared.faults.Bound.{Bound}
use Rattle.flit_trace.specs.declared.faults.Bound.TheVariants.{Bytes}
use Rattle.flit_trace.specs.declared.faults.TraceError.{TraceError}
use Rattle.flit_trace.specs.declared.faults.TraceError.TheVariants.{BadLine, Limit, NoEnd, NoMemory}
use Rattle.flit_trace.specs.declared.drafts.Draft.{Draft}
use Rattle.flit_trace.specs.declared.sentences.Sentence.{Sentence}
use Rattle.flit_trace.specs.Sentences.{Says}
use Rattle.flit_trace.specs.Drafts.{Goes, IsBad, IsPast, blank, verdict, is_ended}
use Rattle.flit_trace.specs.Contents.{Contents, nothing, told_with, Content, content_of}

-- an empty line says nothing, nor does one that begins with #
abbrev pub is_silent : List ℕ → Bool
is_silent [] = true
is_silent (b ∷ bs) = b == 35

-- where the reading of a text has come to
pub record Reading : Type 0 where
  pub draft : Draft
  pub told : Contents

abbrev pub beginning : Reading
beginning = record { draft = blank; told = nothing }

-- a line may stand there at all: its bytes are ASCII, and no `end` has come
pub record IsOpen (d : Draft) (line : List ℕ) : Type 0 where
  pub ascii : IsAscii line
  pub open_yet : is_ended d.stage ≡ false

-- the line, of number n, says this, and may stand there
pub record SaysAt (n : ℕ) (r : Reading) (line : List ℕ) (q : Reading) : Type 0 where
  pub speaks : is_silent line ≡ false
  pub sentence : Sentence
  pub says : Says line sentence
  pub goes : verdict r.draft sentence ≡ Goes q.draft
  pub told : q.told ≡ told_with r.draft.layout n sentence r.told

-- the line, of number n, leads from one reading to the next; a silent one changes nothing
abbrev pub IsLine : ℕ → Reading → List ℕ → Reading → Type 0
IsLine n r line q = IsOpen r.draft line × (((is_silent line ≡ true) × (q ≡ r)) ⊎ SaysAt n r line q)

-- the lines from line n on lead from one reading to another
abbrev pub IsReadFrom : ℕ → Reading → List (List ℕ) → Reading → Type 0
IsReadFrom n r [] q = q ≡ r
IsReadFrom n r (line ∷ lines) q = (m : Reading) × IsLine n r line m × IsReadFrom (suc n) m lines q

-- the line can't stand there: whatever it says is bad
abbrev pub IsBadAt : Draft → List ℕ → Type 0
IsBadAt d line =
    (¬ IsAscii line)
    ⊎ ((is_ended d.stage ≡ true)
    ⊎ ((is_silent line ≡ false) × ((s : Sentence) → Says line s → verdict d s ≡ IsBad)))

-- the line could stand there but for a number past a limit
pub record IsPastAt (d : Draft) (line : List ℕ) (bound : Bound) : Type 0 where
  pub may_stand : IsOpen d line
  pub speaks : is_silent line ≡ false
  pub sentence : Sentence
  pub says : Says line sentence
  pub past : verdict d sentence ≡ IsPast bound

-- the fault of line n
abbrev pub IsRefused : ℕ → Draft → List ℕ → TraceError → Type 0
IsRefused n d line (BadLine m) = (m ≡ n) × IsBadAt d line
IsRefused n d line (Limit m bound) = (m ≡ n) × IsPastAt d line bound
IsRefused n d line (NoEnd m) = ⊥
IsRefused n d line NoMemory = ⊥

-- the first fault of the lines from line n on
abbrev pub IsFaultFrom : ℕ → Reading → List (List ℕ) → TraceError → Type 0
IsFaultFrom n r [] fault = (is_ended r.draft.stage ≡ false) × (fault ≡ NoEnd n)
IsFaultFrom n r (line ∷ lines) fault =
    IsRefused n r.draft line fault ⊎ ((q : Reading) × IsLine n r line q × IsFaultFrom (suc n) q lines fault)

-- the bytes are a trace of this content
pub record IsTrace (bytes : List ℕ) (content : Content) : Type 0 where
  pub size : length bytes ≤ MOST_BYTES
  pub last : Reading
  pub read : IsReadFrom 1 beginning (lines_of bytes) last
  pub ended : is_ended last.draft.stage ≡ true
  pub is : content ≡ content_of last.draft last.told

-- the first fault of bytes that are no trace
abbrev pub IsTraceFault : List ℕ → TraceError → Type 0
IsTraceFault bytes fault =
    ((MOST_BYTES < length bytes) × (fault ≡ Limit 0 Bytes))
    ⊎ ((length bytes ≤ MOST_BYTES) × IsFaultFrom 1 beginning (lines_of bytes) fault)

-- an error of reading a text is its first fault, unless memory ran out
abbrev pub IsErrorOf : List ℕ → TraceError → Type 0
IsErrorOf bytes NoMemory = Unit {0}
IsErrorOf bytes (BadLine line) = IsTraceFault bytes (BadLine line)
IsErrorOf bytes (Limit line bound) = IsTraceFault bytes (Limit line bound)
IsErrorOf bytes (NoEnd line) = IsTraceFault bytes (NoEnd line)
