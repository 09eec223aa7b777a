-- What is told of a trace over a placement is told of the structure that the trace names.
use Rattle.std.proofs.Common.{◌≡◌, ℕ, ◌≤◌, List, sym, subst, Result, IfOk}
use Rattle.std.proofs.lemmas.Result.{IfOk-weaker}
use Rattle.flit_words.specs.declared.memory.NoMemory.{NoMemory}
use Rattle.flit_model.specs.Recovery.{IsRecovery}
use Rattle.flit_model.specs.declared.found.Recovered.{Recovered}
use Rattle.flit_place.specs.Tags.{Place}
use Rattle.flit_trace.specs.Contents.{Content}
use Rattle.flit_trace.specs.Drafts.{IsPlace}
use Rattle.flit_trace.specs.Grammar.{IsTrace}
use Rattle.flit_trace.specs.SeenTraces.{SeenTrace, Shows, IsReadAs}
use Rattle.flit_trace.specs.declared.heads.Head.{Head}
use Rattle.flit_trace.specs.declared.heads.Place.TheVariants.{Hashed}
use Rattle.flit_step_runs.specs.Plays.{CanPlay, CanPlaySeen}
use Rattle.flit_structures.specs.Openings.{TracesPlay}
use Rattle.flit_structures.specs.Reports.{IsToldOfTrace}
use Rattle.flit_structures.specs.Runs.{IsToldOf, IsToldSeen}
use Rattle.flit_structures.specs.Starts.{StartsSeen}
use Rattle.flit_structures.specs.Structures.{placing_of, structure_of, structure_in, IsPlayable}
use Rattle.flit_structures.specs.declared.runs.Wanted.{Wanted}

-- how many slots a hashed place has
pub some_slots : (bytes : List ℕ) (trace : SeenTrace) (n : ℕ) → IsReadAs bytes trace → ((bs : List ℕ) (c : Content) → IsTrace bs c → IsPlace c.head.place) →
    trace.head.place ≡ Hashed n → 1 ≤ n
some_slots bytes trace n read placed is =
    let at : IsPlace trace.head.place = subst (λ (h : Head). IsPlace h.place) (sym read.shows.head) (placed bytes read.content read.is) in
    let hashed : IsPlace (Hashed n) = subst IsPlace is at in
    hashed.0

module _ (trace : SeenTrace) (start : Recovered) (playable : IsPlayable trace.head) (starts : StartsSeen trace start) where
  -- what recovery found is so of the head that is seen
  pub found_here : (bytes : List ℕ) → IsReadAs bytes trace →
      IsRecovery trace.head.layout start.image.words.items start.keys.items start.values.items start.free.items
  found_here bytes read =
      subst (λ (h : Head). IsRecovery h.layout start.image.words.items start.keys.items start.values.items start.free.items) (sym read.shows.head)
      (starts bytes read.content read.is read.shows).recovery

  -- each trace that is seen can be played on the structure of the head that is seen
  can_play : TracesPlay → (bytes : List ℕ) (t : Content) → IsTrace bytes t → Shows trace t → CanPlay (structure_in trace.head start.free.items).meaning start t
  can_play plays bytes t is shows =
      subst (λ (h : Head). CanPlay (structure_in h start.free.items).meaning start t) (sym shows.head)
      (plays bytes t start is (subst IsPlayable shows.head playable) (starts bytes t is shows))

  pub plays_over : TracesPlay → (p : Place) → placing_of trace.head.place ≡ p → (bytes : List ℕ) → IsReadAs bytes trace →
      CanPlaySeen (structure_of trace.head.layout p trace.head.layout.kind start.free.items).meaning start trace
  plays_over plays p is bytes read =
      subst (λ x. CanPlaySeen (structure_of trace.head.layout x trace.head.layout.kind start.free.items).meaning start trace) is
      (read.content, read.shows, can_play plays bytes read.content read.is read.shows)

  pub told_over : TracesPlay → (p : Place) {X : Type 0} (items : X → List ℕ) (found : Result X NoMemory) (wanted : Wanted) → placing_of trace.head.place ≡ p →
      IfOk found (λ x. IsToldSeen (structure_of trace.head.layout p trace.head.layout.kind start.free.items).meaning trace wanted start (items x)) →
      IfOk found (λ x. IsToldOfTrace trace wanted start (items x))
  told_over plays p items found wanted is told =
      IfOk-weaker found (λ x. IsToldSeen (structure_of trace.head.layout p trace.head.layout.kind start.free.items).meaning trace wanted start (items x))
      (λ x. IsToldOfTrace trace wanted start (items x))
      (λ x seen bytes t reads shown.
      let here = subst (λ y. IsToldSeen (structure_of trace.head.layout y trace.head.layout.kind start.free.items).meaning trace wanted start (items x))
      (sym is) seen in
      subst (λ (h : Head). IsToldOf (structure_in h start.free.items).meaning t wanted start (items x)) shown.head
      (here t shown (can_play plays bytes t reads shown))) told
