-- Workers that have just been hired.
use Rattle.std.proofs.Common.{◌≡◌, ℕ, ◌+◌, List, [], ◌∷◌, ◌++◌, length, map, refl, sym, ◌∙◌, ap, subst, arith, Option, None, slice_index}
use Rattle.std.specs.List.{AllByRecursion}
use Rattle.flit_model.specs.declared.calls.Outcome.{Outcome}
use Rattle.flit_model.specs.declared.calls.Work.{Work}
use Rattle.flit_structure.specs.Moments.{hired}
use Rattle.flit_structure.specs.Meanings.{Meaning}
use Rattle.flit_sched.specs.declared.players.Player.{Player}
use Rattle.flit_sched.specs.declared.seats.Seat.{Seat}
use Rattle.flit_sched.specs.Runs.{Part}
use Rattle.flit_sched.specs.Kept.{part_of, pairs_waiting}
use Rattle.flit_sched.specs.Openings.{first_part, first_parts}
use Rattle.flit_sched.specs.Settled.{AreLastFrom}
use Rattle.flit_sched.specs.Seats.{IsHired, AreHiredFrom, seated, played, HasEnded}

pub hired_pushed : {Op : Type 0} (name : ℕ) (ps : List (Player (Seat Op))) (ws : List Work) (w : Work) (p : Player (Seat Op)) → AreHiredFrom name ws ps →
    IsHired (name + length ws) w p →
    AreHiredFrom name (ws ++ w ∷ []) (ps ++ p ∷ [])
hired_pushed name [] [] w p h k = (subst (λ n. IsHired n w p) (let e : name + 0 ≡ name = omega arith in e) k, tt)
hired_pushed name (q ∷ ps) [] w p h k = absurd h
hired_pushed name [] (v ∷ ws) w p h k = absurd h
hired_pushed name (q ∷ ps) (v ∷ ws) w p h k =
    (h.0, hired_pushed (name + 1) ps ws w p h.1 (subst (λ n. IsHired n w p) (let e : name + length (v ∷ ws) ≡ name + 1 + length ws = omega arith in e) k))

pub none_hired : {Op : Type 0} (meaning : Meaning Op) (name : ℕ) (ws : List Work) (ps : List (Player (Seat Op))) → AreHiredFrom name ws ps →
    AllByRecursion (λ p. p.waiting ≡ None) (map (played meaning) ps)
none_hired meaning name [] [] h = tt
none_hired meaning name [] (p ∷ ps) h = absurd h
none_hired meaning name (w ∷ ws) [] h = absurd h
none_hired meaning name (w ∷ ws) (p ∷ ps) h = (h.0.waiting, none_hired meaning (name + 1) ws ps h.1)

pub ended_hired : {Op : Type 0} (meaning : Meaning Op) (name : ℕ) (ws : List Work) (ps : List (Player (Seat Op))) → AreHiredFrom name ws ps →
    AllByRecursion (λ p. HasEnded meaning p.worker.at) ps
ended_hired meaning name [] [] h = tt
ended_hired meaning name [] (p ∷ ps) h = absurd h
ended_hired meaning name (w ∷ ws) [] h = absurd h
ended_hired meaning name (w ∷ ws) (p ∷ ps) h = (subst (λ v. HasEnded meaning v.at) (sym h.0.worker) tt, ended_hired meaning (name + 1) ws ps h.1)

pub last_hired : {Op : Type 0} (waiters : List ℕ) (name first : ℕ) (ws : List Work) (ps : List (Player (Seat Op))) → AreHiredFrom name ws ps →
    AreLastFrom waiters first ps
last_hired waiters name first [] [] h = tt
last_hired waiters name first [] (p ∷ ps) h = absurd h
last_hired waiters name first (w ∷ ws) [] h = absurd h
last_hired waiters name first (w ∷ ws) (p ∷ ps) h = (
  subst (λ o. AllByRecursion (λ v. slice_index waiters v.0 ≡ first) (pairs_waiting o)) (sym h.0.waiting) tt,
  last_hired waiters (name + 1) (first + 1) ws ps
      h.1,
)

part_hired : {Op : Type 0} (meaning : Meaning Op) (name : ℕ) (w : Work) (p : Player (Seat Op)) → IsHired name w p →
    part_of (played meaning p) ≡ first_part name w
part_hired {Op} meaning name w p h =
    ap {A = Seat Op} {B = Part Op} (λ x. record {
      worker = seated meaning x;
      items = p.work.items.items;
      left = p.left;
      over = p.over;
      outcomes =
          p.outcomes.items;
    }) h.worker
    ∙ ap {A = Work} {B = Part Op} (λ x. record { worker = hired name; items = x.items.items; left = p.left; over = p.over; outcomes = p.outcomes.items })
    h.work_is
    ∙ ap {A = Option ℕ} {B = Part Op} (λ x. record { worker = hired name; items = w.items.items; left = x; over = p.over; outcomes = p.outcomes.items }) h.left
    ∙ ap {A = ℕ} {B = Part Op} (λ x. record { worker = hired name; items = w.items.items; left = w.stop; over = x; outcomes = p.outcomes.items }) h.over
    ∙ ap {A = List (Option Outcome)} {B = Part Op} (λ x. record { worker = hired name; items = w.items.items; left = w.stop; over = 0; outcomes = x })
    h.outcomes

pub parts_hired : {Op : Type 0} (meaning : Meaning Op) (name : ℕ) (ws : List Work) (ps : List (Player (Seat Op))) → AreHiredFrom name ws ps →
    map part_of (map (played meaning) ps) ≡ first_parts name ws
parts_hired meaning name [] [] h = refl
parts_hired meaning name [] (p ∷ ps) h = absurd h
parts_hired meaning name (w ∷ ws) [] h = absurd h
parts_hired meaning name (w ∷ ws) (p ∷ ps) h =
    ap (λ x. x ∷ map part_of (map (played meaning) ps)) (part_hired meaning name w p h.0)
    ∙ ap (λ xs. first_part name w ∷ xs) (parts_hired meaning (name + 1) ws ps h.1)
