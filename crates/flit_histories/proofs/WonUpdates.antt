-- Each update was made by a turn.
use Rattle.std.proofs.Common.{◌≡◌, ℕ, sym, ◌∙◌, ap, subst, Some}
use Rattle.std.specs.List.{AllByRecursion}
use Rattle.flit_model.specs.Effects.{answer}
use Rattle.flit_model.specs.declared.calls.Entry.{Entry}
use Rattle.flit_model.specs.declared.events.Event.{Event}
use Rattle.flit_model.specs.declared.events.Event.TheVariants.{Exchange}
use Rattle.flit_structure.specs.Moments.{made}
use Rattle.flit_structure.specs.Meanings.{Meaning, effect_by}
use Rattle.flit_structure.proofs.Names.{all_map}
use Rattle.flit_sched.specs.Runs.{Run}
use Rattle.flit_sched.specs.Turns.{Turned, entered}
use Rattle.flit_histories.specs.Reached.{Leads, here, turn, IsWonBetween}
use Rattle.flit_histories.proofs.MadeLaws.{made_after}

module _ {Op : Type 0} (meaning : Meaning Op) (first : Run Op) where
  still_won : (r next : Run Op) (worker : ℕ) (e : Event) (told : ℕ) → Turned meaning r worker e told next → (x : Entry) → IsWonBetween meaning first r x →
      IsWonBetween meaning first next x
  still_won r next worker e told t x h = record {
    was = h.was;
    next = h.next;
    worker = h.worker;
    word = h.word;
    from = h.from;
    to = h.to;
    led = h.led;
    turned = h.turned;
    effect = h.effect;
    leads = turn h.leads t;
  }

  -- by a turn at which the Exchange found what it expected
  abbrev WonBy : Run Op → Run Op → ℕ → Entry → Event → ℕ → Type 0
  WonBy r next worker x e told = (t : Turned meaning r worker e told next) → effect_by meaning (entered meaning t.part) ≡ Some x →
      IsWonBetween meaning first next x

  won_now : (r next : Run Op) (worker : ℕ) (x : Entry) (word from to : ℕ) → Leads meaning first r → WonBy r next worker x (Exchange word from to) from
  won_now r next worker x word from to led t is = record {
    was = r;
    next = next;
    worker = worker;
    word = word;
    from = from;
    to = to;
    led = led;
    turned = t;
    effect = is;
    leads = here;
  }

  won_at : (r next : Run Op) (worker : ℕ) (x : Entry) (e : Event) (told word from to : ℕ) → Leads meaning first r → e ≡ Exchange word from to → told ≡ from →
      WonBy r next worker x e told
  won_at r next worker x e told word from to led is found =
      subst (λ y. WonBy r next worker x y told) (sym is) (subst (λ n. WonBy r next worker x (Exchange word from to) n) (sym found)
      (won_now r next worker x word from to led))

  won_after : (r next : Run Op) (worker : ℕ) (e : Event) (told : ℕ) → Leads meaning first r → Turned meaning r worker e told next →
      AllByRecursion (IsWonBetween meaning first r) (made r.progress) →
      AllByRecursion (IsWonBetween meaning first next) (made next.progress)
  won_after r next worker e told led t h =
      subst (λ g. AllByRecursion (IsWonBetween meaning first next) (made g)) (sym t.progress)
      (made_after (IsWonBetween meaning first next) r.progress (all_map (IsWonBetween meaning first r) (IsWonBetween meaning first next)
      (still_won r next worker e told t) (made r.progress) h)
      r.state e (effect_by meaning (entered meaning t.part))
      (λ word from to x is found effect. won_at r next worker x e told word from to led is (t.answers ∙ ap (answer r.state) is ∙ found) t effect))

  pub won : (r : Run Op) → Leads meaning first r → AllByRecursion (IsWonBetween meaning first first) (made first.progress) →
      AllByRecursion (IsWonBetween meaning first r) (made r.progress)
  won r here h = h
  won r (turn {q = q} {worker = worker} {e = e} {told = told} led t) h = won_after q r worker e told led t (won q led h)
