-- What an event leaves alone.
use Rattle.std.specs.Prelude.{◌≡◌, ◌≢◌, ℕ}
use Rattle.flit_model.specs.declared.events.Event.{Event}
use Rattle.flit_model.specs.States.{State}
use Rattle.flit_model.specs.Effects.{after, answer, Location, location_of, stands_at}
use Rattle.flit_model.specs.declared.events.Event.TheVariants.{Store}

-- whatever stands at another place than the event's stays
abbrev pub LeavesOtherPlaces : Type 0
LeavesOtherPlaces =
    (m : State) (e : Event) (p : Location) → p ≢ location_of e →
    stands_at (after m e) p ≡ stands_at m p

-- an event answers what stood at its place, but for a Store
abbrev pub AnswersWhatStood : Type 0
AnswersWhatStood =
    (m : State) (e : Event) → ((w x : ℕ) → e ≢ Store w x) →
    answer m e ≡ stands_at m (location_of e)
