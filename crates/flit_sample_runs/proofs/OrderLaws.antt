-- One more worker runs alone behind those that have run in order.
use Rattle.std.proofs.Common.{◌≡◌, ℕ, suc, ◌+◌, length, refl, sym, ◌∙◌, subst, arith}
use Rattle.flit_structure.specs.Meanings.{Meaning}
use Rattle.flit_sched.specs.declared.runs.Turn.TheVariants.{Event as Event_turn}
use Rattle.flit_sched.specs.Runs.{Run}
use Rattle.flit_sched.specs.Turns.{Alone, no_turn, one_more}
use Rattle.flit_sched.proofs.AloneLaws.{turn_long}
use Rattle.flit_sample_runs.specs.InOrder.{InOrder, HasRunOut}

module _ {Op : Type 0} (meaning : Meaning Op) where
  pub alone_long : (worker : ℕ) (r next : Run Op) → Alone meaning worker r next → length next.parts ≡ length r.parts
  alone_long worker r next no_turn = refl
  alone_long worker r next (one_more {n} {o} e told before turned) = turn_long meaning worker n next (Event_turn e told) turned ∙ alone_long worker r n before

  pub one_more_runs : (r between next : Run Op) (before worker : ℕ) → worker ≡ before + 1 → InOrder meaning before r between →
      Alone meaning worker between next → HasRunOut next worker → InOrder meaning worker r next
  one_more_runs r between next before worker is run alone out =
      let same : worker ≡ suc before = omega (arith, is) in
      subst (λ n. Alone meaning n between next → HasRunOut next n → InOrder meaning n r next) (sym same) (λ a o. (between, run, a, o)) alone out
