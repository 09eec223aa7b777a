-- A worker that runs alone.
use Rattle.std.proofs.Common.{◌≡◌, inl, inr, ℕ, suc, ◌<◌, ◌≤◌, List, [], ◌∷◌, ◌++◌, length, refl, sym, ◌∙◌, ap, subst, arith}
use Rattle.flit_structure.specs.Meanings.{Meaning}
use Rattle.flit_sched.specs.declared.runs.Turn.{Turn}
use Rattle.flit_sched.specs.declared.runs.Turn.TheVariants.{Event as Event_turn, Idle as Idle_turn}
use Rattle.flit_sched.specs.Runs.{Part, Run, IsPart}
use Rattle.flit_sched.specs.Turns.{IsOut, IsTurn, GoesDown, Alone, no_turn, one_more, left_at, to_go_at}
use Rattle.flit_sched.proofs.SplitLists.{same_split}

other_long : {X : Type 0} (a b : List X) (x y : X) → length (a ++ x ∷ b) ≡ length (a ++ y ∷ b)
other_long [] b x y = refl
other_long (z ∷ a) b x y = ap suc (other_long a b x y)

module _ {Op : Type 0} (meaning : Meaning Op) (worker : ℕ) where
  pub alone_joined : (r n o : Run Op) → Alone meaning worker r n → Alone meaning worker n o → Alone meaning worker r o
  alone_joined r n o h no_turn = h
  alone_joined r n o h (one_more {n = m} e told k t) = one_more e told (alone_joined r n m h k) t

  pub turn_alone : (r n o : Run Op) (t : Turn) → IsTurn meaning n worker t o → Alone meaning worker r n → Alone meaning worker r o
  turn_alone r n o (Event_turn e told) h k = one_more e told k h
  turn_alone r n o Idle_turn h k = subst (Alone meaning worker r) (sym h.same) k

  pub turn_long : (n o : Run Op) (t : Turn) → IsTurn meaning n worker t o → length o.parts ≡ length n.parts
  turn_long n o (Event_turn e told) h = ap length h.parts ∙ other_long h.before h.behind _ h.part ∙ sym (ap length h.is.is)
  turn_long n o Idle_turn h = ap (λ r. length r.parts) h.same

  pub turn_idle : (n o : Run Op) (t : Turn) → IsTurn meaning n worker t o → t ≡ Idle_turn → (a : List (Part Op)) (p : Part Op) (b : List (Part Op)) →
      IsPart o worker a p b → IsOut p
  turn_idle n o (Event_turn e told) h is a p b at_part = absurd (cc)
  turn_idle n o Idle_turn h is a p b at_part =
      let q = subst (λ r. IsPart r worker a p b) h.same at_part in
      let same = same_split h.before h.behind a b h.part p (sym h.is.is ∙ q.is) (let x = h.is.number in let y = q.number in omega (arith, x, y)) in
      subst IsOut same.here h.out

  pub turn_falls : (n o : Run Op) (t : Turn) → GoesDown meaning n worker t o → (t ≡ Idle_turn → ⊥) → left_at n worker ≤ left_at o worker →
      (left_at o worker ≡ left_at n worker) × (to_go_at meaning o worker < to_go_at meaning n worker)
  turn_falls n o (Event_turn e told) (inl less) going le = absurd (omega (arith, less, le))
  turn_falls n o (Event_turn e told) (inr same) going le = same
  turn_falls n o Idle_turn h going le = absurd (going refl)
