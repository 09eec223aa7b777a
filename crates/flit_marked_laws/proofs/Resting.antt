-- The words of an own row of a call that makes an Exchange are at rest.
use Rattle.std.proofs.Common.{◌≡◌, ℕ, true, List, ◌∷◌, ◌++◌, length, Option, refl, sym, subst}
use Rattle.std.specs.Prelude.{Contains}
use Rattle.std.specs.List.{AllByRecursion}
use Rattle.flit_words.specs.declared.layouts.Layout.{Layout}
use Rattle.flit_model.specs.States.{shadow_at}
use Rattle.flit_model.specs.declared.calls.Call.{Call}
use Rattle.flit_model.proofs.Elements.{all_weaker}
use Rattle.flit_place.specs.Tags.{Place}
use Rattle.flit_place.proofs.Splits.{all_with}
use Rattle.flit_pv.specs.Exchanges.{HeldExchange, exchange_asked}
use Rattle.flit_runs.specs.Workings.{Exchanges, goes_for}
use Rattle.flit_runs.specs.Worlds.{Actor, IsAway}
use Rattle.flit_runs.specs.Rules.{is_exchange}
use Rattle.flit_structure.specs.declared.workers.Worker.{Worker}
use Rattle.flit_structure.specs.Moments.{Moment, busy, with_workers}
use Rattle.flit_crew.specs.Machines.{Works}
use Rattle.flit_crew.specs.Heaps.{heap_of, at_word, IsOpen, IsWordOf}
use Rattle.flit_crew.specs.Anatomies.{own, own_in}
use Rattle.flit_crew.specs.Crews.{Crew, Holds, stranger_of}
use Rattle.flit_crew.specs.Obligations.{Keeps}
use Rattle.flit_crew.proofs.Outside.{outside_away}
use Rattle.flit_crew.proofs.Acting.{Split}
use Rattle.flit_crew.proofs.Going.{r, heap}
use Rattle.flit_crew.proofs.Owning.{IsOwn, own_row, own_away, rests_now, lower}
use Rattle.flit_crew.proofs.Trying.{same_le}
use Rattle.flit_crew.proofs.Winning.{opened, open_actor}

module _ {G Op : Type 0} (c : Crew G Op) (l : Layout) (p : Place) (free : List ℕ) (keeps : Keeps c l p free) (M : Moment Op) (a : List (Worker Op))
    (name number : ℕ) (op : Op) (call : Call) (begun : Option ℕ) (b : List (Worker Op))
    (holds : Holds c l p free (with_workers M (a ++ busy name number op call begun ∷ b))) (m : HeldExchange)
    (is : c.anatomy.machine op ≡ Works (Exchanges m)) (exchanges : is_exchange (exchange_asked p m) ≡ true) where
  abbrev K : ℕ
  K = length M.progress.settled

  abbrev mine : Split c l p free (heap c l p free keeps M a name number op call begun b holds K (same_le K)) a (busy name number op call begun) b holds.actors
  mine = r c l p free keeps M a name number op call begun b holds K (same_le K)

  -- those before it in the world
  abbrev front : List Actor
  front = stranger_of holds.stranger ∷ mine.before

  abbrev mover : Actor
  mover = open_actor c l p free keeps M a name number op call begun b holds K (same_le K) m is

  pub own_rests : (row w : ℕ) → Contains (own c.anatomy op) row → IsWordOf l row w →
      at_word (heap_of (with_workers M (a ++ busy name number op call begun ∷ b)) holds.given holds.ghost) w ≡ shadow_at M.state w
  own_rests row w has of =
      let here = heap_of (with_workers M (a ++ busy name number op call begun ∷ b)) holds.given holds.ghost in
      let o : IsOwn (λ v. own_in c.anatomy v.doing) free holds.given a b row =
      own_row (λ v. own_in c.anatomy v.doing) free M.state.counter holds.given a (busy name number op call begun) b row (lower free holds.pool.rising)
      holds.rows.dealt has in
      let away : AllByRecursion (λ g. IsAway g.private w × IsAway (goes_for g.at) w) (front ++ mine.behind) = (
        (outside_away l free here holds.pool holds.opening holds.stranger holds.outside row w o.pool of, tt),
        own_away c l p free here holds.pool a b mine.before mine.behind mine.left mine.right row w o of,
      ) in
      (rests_now p M.state (front ++ mover ∷ mine.behind) here w refl
      (opened c l p free keeps M a name number op call begun b holds K (same_le K) m is exchanges)
      (all_with (λ g. IsAway g.private w) front mover mine.behind tt
      (all_weaker (λ g. IsAway g.private w × IsAway (goes_for g.at) w) (λ g. IsAway g.private w) (λ g q. q.0) (front ++ mine.behind) away))
      (all_with (λ g. IsAway (goes_for g.at) w) front mover mine.behind
      (all_weaker (IsOpen l free here) (λ y. y ≡ w → ⊥) (λ y q e. o.unlinked (q.given row o.pool (subst (λ z. IsWordOf l row z) (sym e) of)))
      (goes_for mine.actor.at) mine.mine.reached)
      (all_weaker (λ g. IsAway g.private w × IsAway (goes_for g.at) w) (λ g. IsAway (goes_for g.at) w) (λ g q. q.1) (front ++ mine.behind) away))).1
