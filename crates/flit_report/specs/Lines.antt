-- The lines of a report, in the bytes of their text.
use Rattle.std.specs.Prelude.{◌≡◌, ℕ, List, [], ◌∷◌, ◌++◌, map, if◌then◌else◌, ◌==◌, String, string_bytes, codes}
use Rattle.std.specs.Global.{Global}
use Rattle.std.specs.Fmt.{decimal}
use Rattle.std.specs.List.{flat_map}
use Rattle.flit_words.specs.Texts.{word_text}
use Rattle.flit_model.specs.declared.calls.Call.{Call}
use Rattle.flit_model.specs.declared.calls.Call.TheVariants.{Insert, Remove, Contains, Get}
use Rattle.flit_model.specs.declared.calls.Reply.{Reply}
use Rattle.flit_model.specs.declared.calls.Reply.TheVariants.{Yes, No, Found, Full, Worn}
use Rattle.flit_model.specs.declared.calls.Outcome.{Outcome}
use Rattle.flit_model.specs.declared.calls.Outcome.TheVariants.{Replied, Stopped}
use Rattle.flit_model.specs.declared.calls.Entry.{Entry}
use Rattle.flit_model.specs.declared.calls.Tally.{Tally}
use Rattle.flit_model.specs.declared.events.Event.{Event}
use Rattle.flit_model.specs.declared.events.Event.TheVariants.{Load, ReadTag, Raise, Lower, Exchange, Persist, Store, Draw}
use Rattle.flit_report.specs.declared.content.Line.{Line}
use Rattle.flit_report.specs.declared.content.Shown.{Shown}

-- each word behind one space
abbrev pub spaced_words : List (List ℕ) → List ℕ
spaced_words words = flat_map (λ word. 32 ∷ word) words

-- a line: its words, with one space between two of them, and the line's end
abbrev pub line : List ℕ → List (List ℕ) → List ℕ
line first words = first ++ spaced_words words ++ 10 ∷ []

-- what an event did, with its answer
abbrev pub event_words : Event → ℕ → List (List ℕ)
event_words (Load word) answer = codes "load" ∷ decimal word ∷ word_text answer ∷ []
event_words (ReadTag slot) answer = codes "readtag" ∷ decimal slot ∷ decimal answer ∷ []
event_words (Raise slot) answer = codes "raise" ∷ decimal slot ∷ decimal answer ∷ []
event_words (Lower slot) answer = codes "lower" ∷ decimal slot ∷ decimal answer ∷ []
event_words (Exchange word old new) answer =
    codes "exchange" ∷ decimal word ∷ word_text old ∷ word_text new
    ∷ word_text answer ∷ []
event_words (Persist word kept) answer =
    codes "persist" ∷ decimal word ∷ word_text kept ∷ word_text answer ∷ []
event_words (Store word new) answer = codes "store" ∷ decimal word ∷ word_text new ∷ []
event_words Draw answer = codes "draw" ∷ decimal answer ∷ []

-- what was asked; the value of an insert shows in version 2 alone
abbrev pub call_words : ℕ → Call → List (List ℕ)
call_words version (Insert key value) =
    codes "insert" ∷ decimal key ∷ (if version == 2 then decimal value ∷ [] else [])
call_words version (Remove key) = codes "remove" ∷ decimal key ∷ []
call_words version (Contains key) = codes "contains" ∷ decimal key ∷ []
call_words version (Get key) = codes "get" ∷ decimal key ∷ []

-- what a call was answered
abbrev pub reply_words : Reply → List (List ℕ)
reply_words Yes = codes "yes" ∷ []
reply_words No = codes "no" ∷ []
reply_words (Found value) = codes "value" ∷ decimal value ∷ []
reply_words (Full ticket) = codes "full" ∷ decimal ticket ∷ []
reply_words (Worn word version) = codes "worn" ∷ decimal word ∷ decimal version ∷ []

-- what became of a call
abbrev pub outcome_words : Outcome → List (List ℕ)
outcome_words (Replied reply) = reply_words reply
outcome_words Stopped = codes "stopped" ∷ []

-- what a worker did, in counts
abbrev pub tally_words : Tally → List (List ℕ)
tally_words t =
    codes "loads" ∷ decimal t.loads
    ∷ codes "omitted" ∷ decimal t.omitted
    ∷ codes "queued" ∷ decimal t.queued
    ∷ codes "persists" ∷ decimal t.persists
    ∷ codes "failed" ∷ decimal t.failed
    ∷ codes "helped" ∷ decimal t.helped
    ∷ codes "tries" ∷ decimal t.tries ∷ []

-- the line of each part of a report
unfoldable pub event_line : Shown → List ℕ
event_line shown =
    line (codes "event") (decimal shown.worker ∷ event_words shown.event shown.answer)

unfoldable pub call_line : ℕ → Line → List ℕ
call_line version l =
    line (codes "call") (decimal l.worker ∷ call_words version l.call ++ outcome_words l.outcome)

unfoldable pub history_line : ℕ → Entry → List ℕ
history_line version e =
    line (codes "history")
    (decimal e.worker ∷ decimal e.number ∷ call_words version e.call ++ reply_words e.reply)

unfoldable pub tally_line : ℕ → Tally → List ℕ
tally_line worker t = line (codes "worker") (decimal worker ∷ tally_words t)

-- a line of a name and numbers, and of a name and one number
unfoldable pub numbers_line : List ℕ → List ℕ → List ℕ
numbers_line name numbers = line name (map decimal numbers)

unfoldable pub number_line : List ℕ → ℕ → List ℕ
number_line name number = line name (decimal number ∷ [])

-- the text stands at the end of the buffer, behind what was there
abbrev pub Appends : String Global → String Global → List ℕ → Type 0
Appends old new text = string_bytes new ≡ string_bytes old ++ text
