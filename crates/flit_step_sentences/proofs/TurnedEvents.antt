-- The events of a run stand in the turns that its lines give.
use Rattle.std.proofs.Common.{◌≡◌, inl, inr, ℕ, List, [], ◌∷◌, ◌++◌, length, refl, sym, ◌∙◌, ap, subst, arith, append_assoc, Option, Some, None}
use Rattle.std.proofs.lemmas.List.{length-append}
use Rattle.std.specs.List.{AllByRecursion}
use Rattle.flit_report.specs.declared.content.Shown.{Shown}
use Rattle.flit_structure.specs.Meanings.{Meaning}
use Rattle.flit_sched.specs.declared.runs.Turn.{Turn}
use Rattle.flit_sched.specs.declared.runs.Turn.TheVariants.{Event as Event_turn, Idle as Idle_turn}
use Rattle.flit_sched.specs.Runs.{Run}
use Rattle.flit_histories.specs.Following.{Given}
use Rattle.flit_turns.specs.Lines.{Line, IsEvent, IsEventBy, AreEnough, FollowsLines, shown_by, shown_of}
use Rattle.flit_step_sentences.specs.Machines.{IsAtMost, AreInTurns}

shown_joined : (ts us : List Given) → shown_of (ts ++ us) ≡ shown_of ts ++ shown_of us
shown_joined [] us = refl
shown_joined (t ∷ ts) us =
    ap (λ xs. shown_by t.worker t.turn ++ xs) (shown_joined ts us) ∙ sym (append_assoc (shown_by t.worker t.turn) (shown_of ts) (shown_of us))

one_shown : (worker v : ℕ) (x : Turn) → v ≡ worker → IsEvent x → AllByRecursion (λ (s : Shown). s.worker ≡ worker) (shown_by v x) × (length (shown_by v x) ≡ 1)
one_shown worker v (Event_turn e told) same h = ((same, tt), refl)
one_shown worker v Idle_turn same h = absurd h

both_own : (worker : ℕ) (xs ys : List Shown) → AllByRecursion (λ (s : Shown). s.worker ≡ worker) xs → AllByRecursion (λ (s : Shown). s.worker ≡ worker) ys →
    AllByRecursion (λ (s : Shown). s.worker ≡ worker) (xs ++ ys)
both_own worker [] ys h k = k
both_own worker (x ∷ xs) ys h k = (h.0, both_own worker xs ys h.1 k)

own_shown : (worker : ℕ) (ts : List Given) → AllByRecursion (IsEventBy worker) ts →
    AllByRecursion (λ (s : Shown). s.worker ≡ worker) (shown_of ts) × (length (shown_of ts) ≡ length ts)
own_shown worker [] h = (tt, refl)
own_shown worker (t ∷ ts) h =
    let one = one_shown worker t.worker t.turn h.0.0 h.0.1 in
    let rest = own_shown worker ts h.1 in
    let first = one.1 in
    let more = rest.1 in
    let all = length-append (shown_by t.worker t.turn) (shown_of ts) in
    (both_own worker (shown_by t.worker t.turn) (shown_of ts) one.0 rest.0, omega (arith, first, more, all))

module _ {Op : Type 0} (meaning : Meaning Op) where
  most_made : (most : Option ℕ) (made : ℕ) (next : Run Op) (worker : ℕ) → AreEnough meaning most made next worker → IsAtMost most made
  most_made None made next worker h = tt
  most_made (Some n) made next worker (inl same) = omega (arith, same)
  most_made (Some n) made next worker (inr k) = k.0

  pub in_turns : (r next : Run Op) (ls : List Line) (given : List Given) → FollowsLines meaning r ls given next → AreInTurns ls (shown_of given)
  in_turns r next [] given h = ap shown_of h.0
  in_turns r next (l ∷ ls) given h =
      let own = own_shown l.worker h.1 h.4.made.own in (
        shown_of h.1,
        shown_of h.2,
        ap shown_of h.3 ∙ shown_joined h.1 h.2,
        own.0,
        subst (IsAtMost l.most) (sym own.1) (most_made l.most (length h.1) h.0 l.worker h.4.enough),
        in_turns h.0 next ls h.2 h.5,
      )
