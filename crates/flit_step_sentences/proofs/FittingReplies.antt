-- Each reply that a run has given fits its call.
use Rattle.std.proofs.Common.{◌≡◌, ◌≢◌, ◌⊎◌, inl, inr, ℕ, zero, suc, ◌+◌, ◌<◌, ◌≤◌, true, List, [], ◌∷◌, ◌++◌, length, refl, sym, ◌∙◌, ap, subst, arith, Option, Some, None, slice_get, slice_set}
use Rattle.std.proofs.lemmas.Bool.{cases_lt}
use Rattle.std.proofs.lemmas.Option.{none-some}
use Rattle.flit_model.specs.declared.calls.Call.{Call}
use Rattle.flit_model.specs.declared.calls.Item.TheVariants.{Call as Call_item}
use Rattle.flit_model.specs.declared.calls.Outcome.{Outcome}
use Rattle.flit_model.specs.declared.calls.Outcome.TheVariants.{Replied}
use Rattle.flit_model.specs.declared.calls.Reply.{Reply}
use Rattle.flit_model.specs.declared.calls.Work.{Work}
use Rattle.flit_model.specs.declared.events.Event.{Event}
use Rattle.flit_structure.specs.declared.workers.Doing.{Doing}
use Rattle.flit_structure.specs.declared.workers.Doing.TheVariants.{Idle, Busy, Evicting}
use Rattle.flit_structure.specs.Meanings.{Meaning}
use Rattle.flit_structure.specs.Lawful.{Lawful, fits}
use Rattle.flit_sched.specs.Runs.{Part, Run}
use Rattle.flit_sched.specs.Openings.{first_parts}
use Rattle.flit_sched.specs.Turns.{Turned, reply_in, outcomes_after}
use Rattle.flit_histories.specs.Reached.{Leads, here, turn}
use Rattle.flit_histories.proofs.PartLists.{AllFrom, all_from_at, all_from_put}
use Rattle.flit_histories.proofs.TurnedRuns.{Makes, turned_is, makes, part_made, doing_made}
use Rattle.flit_histories.proofs.SoundRuns as sound
use Rattle.flit_histories.proofs.SoundRuns.{IsSound}
use Rattle.flit_histories.proofs.ReachedRuns.{sound_led}
use Rattle.flit_histories.proofs.ToldCalls as told
use Rattle.flit_histories.proofs.ToldCalls.{IsTold, set_other}
use Rattle.flit_histories.proofs.ToldRuns.{told_led, first_waits_all}

one_call : (x y : Call) → Some (Call_item x) ≡ Some (Call_item y) → x ≡ y
one_call x y q = cc

-- what is read where something was set
set_is : (xs : List (Option Outcome)) (i : ℕ) (now reply : Reply) → slice_get (slice_set xs i (Some (Replied now))) i ≡ Some (Some (Replied reply)) →
    now ≡ reply
set_is [] i now reply h = absurd (none-some (Some (Replied reply)) h)
set_is (x ∷ xs) zero now reply h = cc
set_is (x ∷ xs) (suc i) now reply h = set_is xs i now reply h

module _ {Op : Type 0} (meaning : Meaning Op) where
  abbrev pub AreFitting : ℕ → Part Op → Type 0
  AreFitting name p = (k : ℕ) (call : Call) (reply : Reply) → slice_get p.items k ≡ Some (Call_item call) →
      slice_get p.outcomes k ≡ Some (Some (Replied reply)) → fits call reply ≡ true

  fitting_first : (name : ℕ) (works : List Work) → AllFrom AreFitting name (first_parts name works)
  fitting_first name [] = tt
  fitting_first name (w ∷ ws) = ((λ k call reply is at. absurd (first_waits_all w.items.items k reply at)), fitting_first (name + 1) ws)

  module _ (l : Lawful meaning) (r next : Run Op) (v : ℕ) (e : Event) (told_it : ℕ) (t : Turned meaning r v e told_it next) (K : IsSound meaning r)
      (T : IsTold r)
      (h : AllFrom AreFitting 1 r.parts) where
    m : Makes meaning r t.before t.part t.behind e t.reads
    m = makes meaning r next v e told_it t

    own_was : AreFitting (1 + length t.before) t.part
    own_was = all_from_at AreFitting 1 t.before t.behind t.part (subst (AllFrom AreFitting 1) t.is.is h)

    new_one : (x : Doing Op) → doing_made meaning r t.part e ≡ x → (reply : Reply) → reply_in meaning x ≡ Some reply → (call : Call) →
        slice_get t.part.items t.part.over ≡ Some (Call_item call) → fits call reply ≡ true
    new_one (Idle hand) at_x reply is call item = absurd (none-some reply is)
    new_one (Busy op own begun) at_x reply is call item =
        let here_it = (sound.d_call meaning l r t.before t.part t.behind e t.reads m K op own begun at_x).0 in
        subst (λ c. fits c reply ≡ true) (one_call own call (sym here_it ∙ item))
        (told.says meaning l r t.before t.part t.behind e t.reads m K T op own begun reply at_x is).fits
    new_one (Evicting evict) at_x reply is call item = absurd (none-some reply is)

    own_now : (o : Option Reply) → reply_in meaning (doing_made meaning r t.part e) ≡ o → (k : ℕ) (call : Call) (reply : Reply) →
        slice_get t.part.items k ≡ Some (Call_item call) →
        slice_get (outcomes_after meaning t.part.outcomes t.part.over o) k ≡ Some (Some (Replied reply)) → fits call reply ≡ true
    own_now None is k call reply item at_k = own_was k call reply item at_k
    own_now (Some now) is k call reply item at_k = by_place (cases_lt k t.part.over) (cases_lt t.part.over k)
      where
        other : t.part.over ≢ k → fits call reply ≡ true
        other ne = own_was k call reply item (sym (set_other t.part.outcomes t.part.over k (Some (Replied now)) ne) ∙ at_k)

        by_place : (k < t.part.over) ⊎ (t.part.over ≤ k) → (t.part.over < k) ⊎ (k ≤ t.part.over) → fits call reply ≡ true
        by_place (inl less) y = other (λ q. omega (arith, q, less))
        by_place (inr le) (inl less) = other (λ q. omega (arith, q, less))
        by_place (inr le) (inr ge) =
            let same : k ≡ t.part.over = omega (arith, le, ge) in
            let now_is = set_is t.part.outcomes t.part.over now reply
            (sym (ap (slice_get (slice_set t.part.outcomes t.part.over (Some (Replied now)))) same) ∙ at_k) in
            subst (λ y. fits call y ≡ true) now_is
            (new_one (doing_made meaning r t.part e) refl now is call (sym (ap (slice_get t.part.items) same) ∙ item))

    fitting_turned : AllFrom AreFitting 1 next.parts
    fitting_turned =
        subst (λ q. AllFrom AreFitting 1 q.parts) (sym (turned_is meaning r next v e told_it t))
        (all_from_put AreFitting AreFitting 1 t.before t.behind t.part (part_made meaning r t.part e) (λ n x apart k. k)
        (own_now (reply_in meaning (doing_made meaning r t.part e)) refl) (subst (AllFrom AreFitting 1) t.is.is h))

  fitting_led : (l : Lawful meaning) (first r : Run Op) → Leads meaning first r → IsSound meaning first → IsTold first → AllFrom AreFitting 1 first.parts →
      AllFrom AreFitting 1 r.parts
  fitting_led l first r here K T h = h
  fitting_led l first r (turn {q = q} {worker = v} {e = e} {told = told_it} led t) K T h =
      fitting_turned l q r v e told_it t (sound_led meaning l first q led K) (told_led meaning l first q led K T) (fitting_led l first q led K T h)

  -- a call's reply fits it
  pub reply_fits : (l : Lawful meaning) (first r : Run Op) (works : List Work) → first.parts ≡ first_parts 1 works → Leads meaning first r →
      IsSound meaning first →
      IsTold first → (a : List (Part Op)) (p : Part Op) (b : List (Part Op)) → r.parts ≡ a ++ p ∷ b → AreFitting (1 + length a) p
  reply_fits l first r works opened led K T a p b is =
      all_from_at AreFitting 1 a b p
      (subst (AllFrom AreFitting 1) is (fitting_led l first r led K T (subst (AllFrom AreFitting 1) (sym opened) (fitting_first 1 works))))
