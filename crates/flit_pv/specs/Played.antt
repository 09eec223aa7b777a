-- A machine that is played by a list of events with their answers.
use Rattle.std.specs.Prelude.{◌≡◌, ℕ, List, [], ◌∷◌, Option, Some}
use Rattle.flit_model.specs.declared.events.Event.{Event}

-- an event and its answer
pub record AnsweredEvent : Type 0 where
  pub event : Event
  pub answer : ℕ

abbrev pub answered_event : Event → ℕ → AnsweredEvent
answered_event event answer = record { event = event; answer = answer }

-- a machine asks for the events of a list one after the other, takes their answers, and is then the last machine
abbrev pub Played : {M : Type 0} → (M → Option Event) → (M → ℕ → M) → M → List AnsweredEvent → M → Type 0
Played asked taken first [] last = first ≡ last
Played asked taken first (t ∷ ts) last = (asked first ≡ Some t.event) × Played asked taken (taken first t.answer) ts last
