-- With one worker nothing is queued, by what is begun, by an event and by the end of an item.
use Rattle.std.proofs.Common.{◌≡◌, ℕ, List, ◌∷◌, ◌++◌, refl, sym, ◌∙◌, ap, subst, Option, Some, None, false}
use Rattle.std.proofs.lemmas.Bool.{false≢true}
use Rattle.std.proofs.lemmas.Option.{none-some}
use Rattle.flit_model.specs.Effects.{answer}
use Rattle.flit_model.specs.declared.calls.Call.{Call}
use Rattle.flit_model.specs.declared.calls.Reply.{Reply}
use Rattle.flit_model.specs.declared.events.Event.{Event}
use Rattle.flit_pv.specs.declared.evicts.Evict.{Evict}
use Rattle.flit_pv.specs.declared.evicts.Evicting.{Evicting as Evict_at}
use Rattle.flit_pv.specs.declared.evicts.Evicting.TheVariants.{Reads, WritesBack, Done}
use Rattle.flit_pv.specs.declared.hands.Hand.{Hand}
use Rattle.flit_pv.specs.Evicts.{evict_asked, evict_takes}
use Rattle.flit_structure.specs.declared.workers.Doing.{Doing}
use Rattle.flit_structure.specs.declared.workers.Doing.TheVariants.{Idle, Busy, Evicting}
use Rattle.flit_structure.specs.declared.workers.Worker.{Worker}
use Rattle.flit_structure.specs.Moments.{Moment, busy, with_workers}
use Rattle.flit_structure.specs.Meanings.{Meaning, MayStart, asks, goes_on, hand_in, replied, tally}
use Rattle.flit_structure.specs.Lawful.{Lawful}
use Rattle.flit_table.specs.declared.passes.Rest.{Rest}
use Rattle.flit_table.specs.declared.passes.Rest.TheVariants.{Hand as Has_hand, Ended, Stopped}
use Rattle.flit_table.specs.declared.views.Post.{Post}
use Rattle.flit_table.specs.declared.views.Start.TheVariants.{Go, Begin, Sweep}
use Rattle.flit_table.specs.Moves.{HasNoneQueued, EntersUnqueued, rests, rests_after_call, rests_after_evict, tally_in}
use Rattle.flit_table.specs.Passes.{is_stopped, waits_in}

evict_unqueued : (w : Evict_at) (m : Evict) (told : ℕ) → m.hand.tally.queued ≡ 0 → (evict_takes w m told).hand.tally.queued ≡ 0
evict_unqueued Reads m told h = h
evict_unqueued (WritesBack raw) m told h = h
evict_unqueued Done m told h = h

-- a pass that isn't stopped waits for nothing
pub waits_free : {Op : Type 0} (rest : Rest Op) → is_stopped rest ≡ false → waits_in rest ≡ Go
waits_free (Has_hand hand) free = refl
waits_free (Ended op) free = refl
waits_free (Stopped so_far start) free = absurd (false≢true (sym free))

module _ {Op : Type 0} (meaning : Meaning Op) where
  -- a worker that is done with its item has its tally
  pub rests_unqueued : (d : Doing Op) → (tally_in meaning d).queued ≡ 0 → (tally_in meaning (rests meaning d)).queued ≡ 0
  rests_unqueued (Idle hand) h = h
  rests_unqueued (Busy op call begun) h = by_reply (replied meaning op)
    where
      by_reply : (r : Option Reply) → (tally_in meaning (rests_after_call (Busy op call begun) (meaning.finished op) r)).queued ≡ 0
      by_reply None = h
      by_reply (Some reply) = h
  rests_unqueued (Evicting evict) h = by_event (evict_asked evict)
    where
      by_event : (r : Option Event) → (tally_in meaning (rests_after_evict (Evicting evict) evict.hand r)).queued ≡ 0
      by_event None = h
      by_event (Some e) = h

  -- a worker in its call begins nothing
  pub busy_enters : (p : Post Op) (name number : ℕ) (op : Op) (call : Call) (begun : Option ℕ) → p.worker ≡ busy name number op call begun →
      (tally meaning op).queued ≡ 0 → EntersUnqueued meaning p
  busy_enters p name number op call begun is h Go may = subst (λ (u : Worker Op). (tally_in meaning u.doing).queued ≡ 0) (sym is) h
  busy_enters p name number op call begun is h (Begin asked) may = absurd (not_idle may.0 (sym (ap (λ (u : Worker Op). u.doing) is) ∙ may.1))
    where
      not_idle : (hand : Hand) → Busy op call begun ≡ Idle hand → ⊥
      not_idle hand e = cc
  busy_enters p name number op call begun is h (Sweep word) may = absurd (not_idle may.0 (sym (ap (λ (u : Worker Op). u.doing) is) ∙ may.1))
    where
      not_idle : (hand : Hand) → Busy op call begun ≡ Idle hand → ⊥
      not_idle hand e = cc

  module _ (laws : Lawful meaning) (M : Moment Op) (A B : List (Worker Op)) where
    begun_unqueued : (name number : ℕ) (doing : Doing Op) (hand : Hand) (call : Call) → doing ≡ Idle hand → MayStart meaning.layout hand call →
        meaning.holds (with_workers M (A ++ record { name = name; number = number; doing = doing } ∷ B)) → (tally_in meaning doing).queued ≡ 0 →
        (tally meaning (meaning.begun (hand_in meaning doing) call)).queued ≡ 0
    begun_unqueued name number doing hand call e may =
        subst (λ d. meaning.holds (with_workers M (A ++ record { name = name; number = number; doing = d } ∷ B)) → (tally_in meaning d).queued ≡ 0 →
        (tally meaning (meaning.begun (hand_in meaning d) call)).queued ≡ 0) (sym e)
        (λ holds h. ap (λ t. t.queued) (laws.tally_first M A name number hand call B may holds).same ∙ h)

    swept_unqueued : (doing : Doing Op) (hand : Hand) → doing ≡ Idle hand → (tally_in meaning doing).queued ≡ 0 → (hand_in meaning doing).tally.queued ≡ 0
    swept_unqueued doing hand e = subst (λ d. (tally_in meaning d).queued ≡ 0 → (hand_in meaning d).tally.queued ≡ 0) (sym e) (λ h. h)

    -- at a moment that holds nothing is queued by what a worker begins
    pub enters_unqueued : (p : Post Op) → meaning.holds (with_workers M (A ++ p.worker ∷ B)) → HasNoneQueued meaning p → EntersUnqueued meaning p
    enters_unqueued p holds h Go may = h
    enters_unqueued p holds h (Begin call) may = begun_unqueued p.worker.name p.worker.number p.worker.doing may.0 call may.1 may.2 holds h
    enters_unqueued p holds h (Sweep word) may = swept_unqueued p.worker.doing may.0 may.1 h

    -- nor by its events
    pub makes_unqueued : (name number settled : ℕ) (doing : Doing Op) (e : Event) → meaning.layout.workers ≡ 1 → asks meaning doing ≡ Some e →
        meaning.holds (with_workers M (A ++ record { name = name; number = number; doing = doing } ∷ B)) → (tally_in meaning doing).queued ≡ 0 →
        (tally_in meaning (goes_on meaning settled doing (answer M.state e))).queued ≡ 0
    makes_unqueued name number settled (Idle hand) e one asked holds h = absurd (none-some e asked)
    makes_unqueued name number settled (Busy op call begun) e one asked holds h = laws.unqueued M A name number op call begun B e one asked holds ∙ h
    makes_unqueued name number settled (Evicting evict) e one asked holds h = evict_unqueued evict.at evict (answer M.state e) h
