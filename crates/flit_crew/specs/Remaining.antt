-- What a structure shows beside what it keeps: the laws that its bounds and counts decide, each in the form that it has
-- among all laws of a structure; and its openings.
use Rattle.std.specs.Prelude.{◌≡◌, ◌≢◌, ◌⊎◌, ℕ, ◌+◌, ◌<◌, true, List, ◌∷◌, ◌++◌, Option, Some, None, Contains}
use Rattle.flit_words.specs.declared.layouts.Layout.{Layout}
use Rattle.flit_model.specs.Effects.{after, answer}
use Rattle.flit_model.specs.declared.events.Event.{Event}
use Rattle.flit_model.specs.declared.calls.Call.{Call}
use Rattle.flit_model.specs.declared.calls.Tally.{Tally}
use Rattle.flit_place.specs.Tags.{Place}
use Rattle.flit_pv.specs.declared.hands.Hand.{Hand}
use Rattle.flit_structure.specs.declared.workers.Worker.{Worker}
use Rattle.flit_structure.specs.Moments.{Opening, Moment, first_moment, made, update_of, idle, busy, with_workers, IsAmong}
use Rattle.flit_structure.specs.Meanings.{Meaning, MayStart, tally, moment_after, Happens}
use Rattle.flit_structure.specs.Lawful.{HoldsWith, BeginsWith, GrowsTo, AreSpareIn, IsBelowTop, AreSearchesBounded, IsTryBounded, events_of_try, is_insert}
use Rattle.flit_crew.specs.Crews.{Crew, Holds}
use Rattle.flit_crew.specs.CrewMeanings.{Bounds, crew_meaning}
use Rattle.flit_crew.specs.Obligations.{OpensSo}

module _ {Op : Type 0} (meaning : Meaning Op) where
  pub record KeepsBounds : Type 0 where
    pub falls : (M : Moment Op) (a : List (Worker Op)) (name number : ℕ) (op : Op) (call : Call) (begun : Option ℕ) (b : List (Worker Op)) (e : Event) →
        meaning.asked op ≡ Some e → HoldsWith meaning M a (busy name number op call begun) b →
        meaning.to_go (after M.state e) (meaning.taken op (answer M.state e)) < meaning.to_go M.state op
    pub spare : (M : Moment Op) (a : List (Worker Op)) (name number : ℕ) (op : Op) (call : Call) (begun : Option ℕ) (b : List (Worker Op)) (e : Event) →
        meaning.asked op ≡ Some e → HoldsWith meaning M a (busy name number op call begun) b →
        let N = moment_after meaning M e a (busy name number op call begun) b in
        AreSpareIn (meaning.finished (meaning.taken op (answer M.state e))) (meaning.finished op)
        ⊎ ((is_insert call ≡ true) × Contains (made N.progress) (update_of name number call))
    pub tally_first : (M : Moment Op) (a : List (Worker Op)) (name number : ℕ) (hand : Hand) (call : Call) (b : List (Worker Op)) →
        MayStart meaning.layout hand call → HoldsWith meaning M a (idle name number hand) b → BeginsWith hand.tally (tally meaning (meaning.begun hand call))
    pub tallies : (M : Moment Op) (a : List (Worker Op)) (name number : ℕ) (op : Op) (call : Call) (begun : Option ℕ) (b : List (Worker Op)) (e : Event) →
        meaning.asked op ≡ Some e → HoldsWith meaning M a (busy name number op call begun) b →
        GrowsTo e (tally meaning op) (tally meaning (meaning.taken op (answer M.state e)))
    pub licensed_first : (M : Moment Op) (a : List (Worker Op)) (name number : ℕ) (hand : Hand) (call : Call) (b : List (Worker Op)) →
        MayStart meaning.layout hand call → HoldsWith meaning M a (idle name number hand) b →
        meaning.licensed (with_workers M (a ++ busy name (number + 1) (meaning.begun hand call) call None ∷ b)) (meaning.begun hand call) hand.tally 0
    pub licensed_own : (M : Moment Op) (a : List (Worker Op)) (name number : ℕ) (op : Op) (call : Call) (begun : Option ℕ) (b : List (Worker Op)) (e : Event)
        (start : Tally) (n : ℕ) →
        meaning.asked op ≡ Some e → HoldsWith meaning M a (busy name number op call begun) b →
        meaning.licensed (with_workers M (a ++ busy name number op call begun ∷ b)) op start n →
        let next = meaning.taken op (answer M.state e) in
        meaning.licensed (moment_after meaning M e a (busy name number op call begun) b) next start (events_of_try n (tally meaning op) (tally meaning next))
    pub licensed_kept : (M N : Moment Op) (who : Option ℕ) (name number : ℕ) (op : Op) (call : Call) (begun : Option ℕ) (start : Tally) (n : ℕ) →
        Happens meaning who M N → who ≢ Some name → IsAmong M.workers (busy name number op call begun) →
        meaning.holds M → meaning.licensed M op start n → meaning.licensed N op start n
    pub licensed_means : (M : Moment Op) (op : Op) (start : Tally) (n : ℕ) →
        meaning.licensed M op start n → IsBelowTop (tally meaning op) →
        AreSearchesBounded meaning.layout.kind start (tally meaning op) × IsTryBounded meaning.bound n (meaning.asked op)

-- what a structure shows of its openings; and that what holds of a moment besides does so at first, and lasts
pub record Begins {G Op : Type 0} (c : Crew G Op) (l : Layout) (p : Place) (free : List ℕ) (bounds : Bounds Op) : Type 0 where
  pub opens : (o : Opening) → bounds.opens o → OpensSo c l p free o
  pub first : (o : Opening) → bounds.opens o → bounds.besides (first_moment l o)
  pub lasts : (who : Option ℕ) (M N : Moment Op) → Happens (crew_meaning c l p free bounds) who M N → Holds c l p free M → bounds.besides M → bounds.besides N
