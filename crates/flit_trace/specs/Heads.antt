-- What the first lines of a text tell of the trace that it may be.
use Rattle.std.specs.Prelude.{◌≡◌, ℕ, List, None, IsSome}
use Rattle.flit_words.specs.Layouts.{Accepted, words_of}
use Rattle.flit_trace.specs.declared.heads.Head.{Head}
use Rattle.flit_trace.specs.Contents.{Content, slots_of}
use Rattle.flit_trace.specs.Drafts.{IsPlace}
use Rattle.flit_trace.specs.Grammar.{IsTrace}

-- a head whose numbers are within the limits, with as many slots as its place has
pub record IsRightHead (h : Head) : Type 0 where
  pub accepted : Accepted h.layout
  pub place : IsPlace h.place
  pub slots : h.layout.slots ≡ slots_of h.place (words_of h.layout)

-- whatever trace the bytes are, it says this before its body, and has no start image
abbrev pub IsHeadOf : List ℕ → Head → Type 0
IsHeadOf bytes h = (t : Content) → IsTrace bytes t → (t.head ≡ h) × (t.start ≡ None)

-- whatever trace the bytes are, it has a start image
abbrev pub HasStart : List ℕ → Type 0
HasStart bytes = (t : Content) → IsTrace bytes t → IsSome t.start
