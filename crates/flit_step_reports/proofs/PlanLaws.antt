-- Lines of turns to their end.
use Rattle.std.proofs.Common.{◌≡◌, ◌⊎◌, inl, inr, ℕ, zero, suc, ◌<◌, ◌≤◌, List, [], ◌∷◌, ◌++◌, refl, sym, ◌∙◌, subst, arith, Option, Some, None, ◌-◌}
use Rattle.std.proofs.lemmas.Bool.{cases_lt}
use Rattle.flit_structure.specs.Meanings.{Meaning}
use Rattle.flit_sched.specs.Runs.{Part, Run}
use Rattle.flit_sched.specs.Turns.{IsOut}
use Rattle.flit_sched.specs.Views.{OfWorker}
use Rattle.flit_histories.specs.Following.{Given}
use Rattle.flit_histories.specs.TurnLaws.{IsLeftBy}
use Rattle.flit_histories.proofs.LedParts.{out_follows}
use Rattle.flit_step_reports.specs.StepLaws.{HasKeptStop}
use Rattle.flit_turns.specs.Lines.{Line, IsLine, FollowsLines, last_lines}

module _ {Op : Type 0} (meaning : Meaning Op) where
  -- lines can be parted
  pub record Parted (r : Run Op) (ls ms : List Line) (next : Run Op) : Type 0 where
    pub between : Run Op
    pub front : List Given
    pub back : List Given
    pub first : FollowsLines meaning r ls front between
    pub last : FollowsLines meaning between ms back next

  pub lines_parted : (r next : Run Op) (ls ms : List Line) (given : List Given) → FollowsLines meaning r (ls ++ ms) given next → Parted r ls ms next
  lines_parted r next [] ms given h = record { between = r; front = []; back = given; first = (refl, refl); last = h }
  lines_parted r next (l ∷ ls) ms given h =
      let p = lines_parted h.0 next ls ms h.2 h.5 in
      record {
        between = p.between;
        front = h.1 ++ p.front;
        back = p.back;
        first = (h.0, h.1, p.front, refl, h.4, p.first);
        last = p.last;
      }

  -- after the last lines each worker is out
  last_out : (n : ℕ) (r next : Run Op) (given : List Given) (worker : ℕ) → FollowsLines meaning r (last_lines n) given next → 1 ≤ worker → worker ≤ n →
      OfWorker next worker IsOut
  last_out zero r next given worker h some le = absurd (omega (arith, some, le))
  last_out (suc n) r next given worker h some le =
      by_place (last_out n r (p).between (p).front worker (p).first some) (cases_lt n worker)
    where
      p : Parted r (last_lines n) (record { worker = suc n; most = None } ∷ []) next
      p = lines_parted r next (last_lines n) (record { worker = suc n; most = None } ∷ []) given h

      line : IsLine meaning (record { worker = suc n; most = None }) (p).between (p).last.1 (p).last.0
      line = (p).last.4

      ended : next ≡ (p).last.0
      ended = (p).last.5.1

      by_place : (worker ≤ n → OfWorker (p).between worker IsOut) → (n < worker) ⊎ (worker ≤ n) → OfWorker next worker IsOut
      by_place before (inl less) =
          let is : suc n ≡ worker = omega (arith, less, le) in
          subst (λ q. OfWorker q worker IsOut) (sym ended) (subst (λ w. OfWorker (p).last.0 w IsOut) is (line).enough)
      by_place before (inr low) =
          subst (λ q. OfWorker q worker IsOut) (sym ended)
          (out_follows meaning (p).between (p).last.0 (p).last.1 worker (line).made.follows (before low))

  pub plan_out : (ls : List Line) (n : ℕ) (r next : Run Op) (given : List Given) (worker : ℕ) → FollowsLines meaning r (ls ++ last_lines n) given next →
      worker ≤ n → OfWorker next worker IsOut
  plan_out ls n r next given worker h le a x b at =
      let p = lines_parted r next ls (last_lines n) given h in
      last_out n p.between next p.back worker p.last (let k = at.number in omega (arith, k)) le a x b at

-- a worker that is out has done all its items, or as many events as its stop says
pub stop_kept : {Op : Type 0} (left : Option ℕ) (made : ℕ) (p : Part Op) → IsLeftBy made left p.left → IsOut p → HasKeptStop left made p
stop_kept None made p h (inl over) = over
stop_kept None made p h (inr none) = absurd (let both = sym h ∙ none in cc)
stop_kept (Some n) made p h (inl over) = inr (h.0, over)
stop_kept (Some n) made p h (inr none) =
    let both : Some (n - made) ≡ Some 0 = sym h.1 ∙ none in
    let zero_left : n - made ≡ 0 = cc in
    let le = h.0 in
    inl (omega (arith, zero_left, le))
