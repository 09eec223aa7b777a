-- The machine that a trace's events were made on.
use Rattle.std.specs.Prelude.{◌≡◌, ℕ, ◌≤◌, ◌==◌, ◌&&◌, List, [], ◌∷◌, ◌++◌, filter, length, count_by, Option, Some, None}
use Rattle.std.specs.List.{AllByRecursion}
use Rattle.flit_words.specs.declared.layouts.Layout.{Layout}
use Rattle.flit_model.specs.States.{State, state_from}
use Rattle.flit_model.specs.Effects.{after, answer}
use Rattle.flit_model.specs.declared.found.Recovered.{Recovered}
use Rattle.flit_report.specs.declared.content.Shown.{Shown}
use Rattle.flit_structure.specs.Lawful.{is_persist}
use Rattle.flit_turns.specs.Lines.{Line}

-- the machine at the start, and after events
abbrev pub first_state : Layout → Recovered → State
first_state l start = state_from l start.image.words.items

abbrev pub state_after : State → List Shown → State
state_after m [] = m
state_after m (s ∷ ss) = state_after (after m s.event) ss

-- each event has the answer that the machine gives at its place
abbrev pub AreAnswered : State → List Shown → Type 0
AreAnswered m [] = Unit {0}
AreAnswered m (s ∷ ss) = (s.answer ≡ answer m s.event) × AreAnswered (after m s.event) ss

-- how many events a worker made
abbrev pub events_made : ℕ → List Shown → ℕ
events_made worker events = length (filter (λ s. s.worker == worker) events)

-- how many of its events were write-backs
abbrev pub persists_made : ℕ → List Shown → ℕ
persists_made worker events = count_by (λ s. (s.worker == worker) && is_persist s.event) events

-- the events stand in the turns that lines ask for, line after line: each is of its line's worker, and there are at most as
-- many as the line says
abbrev pub IsAtMost : Option ℕ → ℕ → Type 0
IsAtMost None made = Unit {0}
IsAtMost (Some most) made = made ≤ most

abbrev pub AreInTurns : List Line → List Shown → Type 0
AreInTurns [] events = events ≡ []
AreInTurns (l ∷ ls) events = (front : List Shown) × (back : List Shown) × (events ≡ front ++ back) × AllByRecursion (λ s. s.worker ≡ l.worker) front
    × IsAtMost l.most (length front) × AreInTurns ls back
