-- What a command says of the input that it answers: why there is no answer, with an input whose bytes the source tells.
use Rattle.std.specs.Prelude.{◌≡◌, ◌⊎◌, ℕ, ◌<◌, List, length, Option, IfSome}
use Rattle.flit_words.specs.declared.limits.TheConstants.{MOST_BYTES}
use Rattle.flit_trace.specs.declared.faults.Bound.{Bound}
use Rattle.flit_trace.specs.declared.faults.Bound.TheVariants.{Bytes}
use Rattle.flit_statuses.specs.Writing.{WroteAt}
use Rattle.flit_statuses.specs.declared.status.Status.{Status}
use Rattle.flit_statuses.specs.declared.status.Status.TheVariants.{Done, Usage, BadTrace, Limit, BadImage, ReadFault, WriteFault, NoMemory}

-- the status is one that the bytes of an input may have: they are bad, or a number is past its limit, or there was no memory
abbrev pub IsOfBytes : Status → Type 0
IsOfBytes Done = ⊥
IsOfBytes Usage = ⊥
IsOfBytes (BadTrace line) = Unit {0}
IsOfBytes (Limit line limit) = Unit {0}
IsOfBytes (BadImage fault) = Unit {0}
IsOfBytes ReadFault = ⊥
IsOfBytes WriteFault = ⊥
IsOfBytes NoMemory = Unit {0}

-- the input has bytes that have no answer, for the reason that the status is
pub record HasNoAnswer (HasNone : List ℕ → Status → Type 0) (status : Status) (input : Option (List ℕ)) : Type 0 where
  pub bytes : List ℕ
  pub told : IfSome input (λ known. bytes ≡ known)
  pub none : HasNone bytes status

-- the input is past the limit on bytes, which is told at line 0
pub record IsTooLong (line : ℕ) (limit : Bound) (input : Option (List ℕ)) : Type 0 where
  pub line_is : line ≡ 0
  pub limit_is : limit ≡ Bytes
  pub long : IfSome input (λ bytes. MOST_BYTES < length bytes)

-- what the status says of the input
abbrev pub Blames : (List ℕ → Status → Type 0) → Status → Option (List ℕ) → Type 0
Blames HasNone (BadTrace line) input = HasNoAnswer HasNone (BadTrace line) input
Blames HasNone (Limit line limit) input = IsTooLong line limit input ⊎ HasNoAnswer HasNone (Limit line limit) input
Blames HasNone (BadImage fault) input = HasNoAnswer HasNone (BadImage fault) input
Blames HasNone Done input = Unit {0}
Blames HasNone Usage input = Unit {0}
Blames HasNone ReadFault input = Unit {0}
Blames HasNone WriteFault input = Unit {0}
Blames HasNone NoMemory input = Unit {0}

-- the text answers the input, where this is told
abbrev pub AnswersInput : (List ℕ → List ℕ → Type 0) → Option (List ℕ) → List ℕ → Type 0
AnswersInput IsAnswer input text = IfSome input (λ bytes. IsAnswer bytes text)

-- the answer of the input was written: the whole of it at Done, a proper front of it at WriteFault
abbrev pub WroteAnswer : (List ℕ → List ℕ → Type 0) → Status → Option (List ℕ) → Option (List ℕ) → Option (List ℕ) → Type 0
WroteAnswer IsAnswer status input before after = WroteAt status (AnswersInput IsAnswer input) before after
