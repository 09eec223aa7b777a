-- With one worker nothing is ever queued; and what a reply of the past says of its bounds stays so.
use Rattle.std.proofs.Common.{◌≡◌, ◌≢◌, ◌⊎◌, inl, inr, ℕ, zero, suc, ◌+◌, ◌*◌, ◌<◌, ◌≤◌, List, [], ◌∷◌, ◌++◌, length, count_by, refl, sym, ◌∙◌, ap, subst, arith, Option, Some, None, slice_get, slice_set}
use Rattle.std.proofs.lemmas.Bool.{cases_lt}
use Rattle.std.proofs.lemmas.Option.{none-some}
use Rattle.flit_words.specs.declared.layouts.Kind.{Kind}
use Rattle.flit_words.specs.declared.layouts.Kind.TheVariants.{List as List_kind, Hash, Tree}
use Rattle.flit_words.specs.declared.layouts.Layout.{Layout}
use Rattle.flit_words.specs.Words.{version_of}
use Rattle.flit_model.specs.Effects.{after, answer}
use Rattle.flit_model.specs.States.{State, shadow_at}
use Rattle.flit_model.specs.declared.calls.Entry.{Entry}
use Rattle.flit_model.specs.declared.calls.Item.{Item}
use Rattle.flit_model.specs.declared.calls.Item.TheVariants.{Call as Call_item, Evict as Evict_item}
use Rattle.flit_model.specs.declared.calls.Outcome.{Outcome}
use Rattle.flit_model.specs.declared.calls.Outcome.TheVariants.{Replied}
use Rattle.flit_model.specs.declared.calls.Reply.{Reply}
use Rattle.flit_model.specs.declared.calls.Reply.TheVariants.{Yes, No, Found, Full, Worn}
use Rattle.flit_model.specs.declared.events.Event.{Event}
use Rattle.flit_model.proofs.Counting.{count_by-append}
use Rattle.flit_pv.specs.declared.evicts.Evict.{Evict}
use Rattle.flit_pv.specs.declared.evicts.Evicting.{Evicting as Evict_at}
use Rattle.flit_pv.specs.declared.evicts.Evicting.TheVariants.{Reads, WritesBack, Done}
use Rattle.flit_pv.specs.Evicts.{evict_asked, evict_takes}
use Rattle.flit_structure.specs.declared.workers.Doing.{Doing}
use Rattle.flit_structure.specs.declared.workers.Doing.TheVariants.{Idle, Busy, Evicting}
use Rattle.flit_structure.specs.declared.workers.Worker.{Worker}
use Rattle.flit_structure.specs.Moments.{Moment, with_workers}
use Rattle.flit_structure.specs.Meanings.{Meaning, asks, goes_on, replied}
use Rattle.flit_structure.specs.Lawful.{Lawful, IsBounded, rows_needed, is_insert}
use Rattle.flit_structure.proofs.WriteBacks.{shadows_rise}
use Rattle.flit_sched.specs.Runs.{Part, Run, moment_of, workers_of}
use Rattle.flit_sched.specs.Openings.{IsRightItem}
use Rattle.flit_sched.specs.Turns.{Turned, enters, rests, hand_over, hand_replied, hand_evicted, tally_in, reply_in, outcomes_after}
use Rattle.flit_sched.proofs.StepLaws.{at, may_start}
use Rattle.flit_histories.specs.Reached.{Leads, here, turn}
use Rattle.flit_histories.proofs.PartLists.{AllFrom, all_from_at, all_from_put}
use Rattle.flit_histories.proofs.TurnedRuns.{Makes, turned_run, turned_is, makes, part_made, doing_made}
use Rattle.flit_histories.proofs.SoundRuns as sound
use Rattle.flit_histories.proofs.SoundRuns.{IsSound}
use Rattle.flit_histories.proofs.ReachedRuns.{sound_led}
use Rattle.flit_histories.proofs.ToldCalls as told
use Rattle.flit_histories.proofs.ToldCalls.{IsTold, set_here, set_other}
use Rattle.flit_histories.proofs.ToldRuns.{told_led}
use Rattle.flit_histories.proofs.Licences as licences

evict_queued : (w : Evict_at) (m : Evict) (told_it : ℕ) → m.hand.tally.queued ≡ 0 → (evict_takes w m told_it).hand.tally.queued ≡ 0
evict_queued Reads m told_it h = h
evict_queued (WritesBack raw) m told_it h = h
evict_queued Done m told_it h = h

module _ {Op : Type 0} (meaning : Meaning Op) where
  -- no event of this worker has queued a word
  abbrev pub HasNoneQueued : ℕ → Part Op → Type 0
  HasNoneQueued name p = (tally_in meaning p.worker.doing).queued ≡ 0

  queued_rests : (d : Doing Op) → (tally_in meaning d).queued ≡ 0 → (tally_in meaning (rests meaning d (hand_over meaning d))).queued ≡ 0
  queued_rests (Idle hand) h = h
  queued_rests (Busy op call begun) h = by_reply (replied meaning op)
    where
      by_reply : (o : Option Reply) → (tally_in meaning (rests meaning (Busy op call begun) (hand_replied meaning op o))).queued ≡ 0
      by_reply None = h
      by_reply (Some reply) = h
  queued_rests (Evicting evict) h = by_event (evict_asked evict)
    where
      by_event : (o : Option Event) → (tally_in meaning (rests meaning (Evicting evict) (hand_evicted meaning evict o))).queued ≡ 0
      by_event None = h
      by_event (Some e) = h

  module _ (l : Lawful meaning) (one : meaning.layout.workers ≡ 1) where
    queued_enters : (M : Moment Op) (a b : List (Worker Op)) (name number : ℕ) (doing : Doing Op) (item : Item) →
        IsRightItem meaning.layout item → number < 4294967295 → meaning.holds (with_workers M (a ++ at name number doing ∷ b)) →
        (tally_in meaning doing).queued ≡ 0 → (tally_in meaning (enters meaning (at name number doing) doing (Some item)).doing).queued ≡ 0
    queued_enters M a b name number (Idle hand) (Call_item call) right small holds h =
        ap (λ t. t.queued) (l.tally_first M a name number hand call b (may_start meaning l M a b name number hand call right small holds) holds).same ∙ h
    queued_enters M a b name number (Idle hand) (Evict_item word) right small holds h = h
    queued_enters M a b name number (Busy op call begun) item right small holds h = h
    queued_enters M a b name number (Evicting evict) item right small holds h = h

    queued_makes : (M : Moment Op) (a b : List (Worker Op)) (name number settled : ℕ) (doing : Doing Op) (e : Event) → asks meaning doing ≡ Some e →
        meaning.holds (with_workers M (a ++ at name number doing ∷ b)) → (tally_in meaning doing).queued ≡ 0 →
        (tally_in meaning (goes_on meaning settled doing (answer M.state e))).queued ≡ 0
    queued_makes M a b name number settled (Idle hand) e asks_e holds h = absurd (none-some e asks_e)
    queued_makes M a b name number settled (Busy op call begun) e asks_e holds h = l.unqueued M a name number op call begun b e one asks_e holds ∙ h
    queued_makes M a b name number settled (Evicting evict) e asks_e holds h = evict_queued evict.at evict (answer M.state e) h

    queued_turned : (r next : Run Op) (v : ℕ) (e : Event) (told_it : ℕ) → Turned meaning r v e told_it next → IsSound meaning r →
        AllFrom HasNoneQueued 1 r.parts → AllFrom HasNoneQueued 1 next.parts
    queued_turned r next v e told_it t K h =
        subst (λ q. AllFrom HasNoneQueued 1 q.parts) (sym (turned_is meaning r next v e told_it t))
        (all_from_put HasNoneQueued HasNoneQueued 1 t.before t.behind t.part (part_made meaning r t.part e) (λ n x apart k. k) own
        (subst (AllFrom HasNoneQueued 1) t.is.is h))
      where
        m : Makes meaning r t.before t.part t.behind e t.reads
        m = makes meaning r next v e told_it t

        own : (tally_in meaning (part_made meaning r t.part e).worker.doing).queued ≡ 0
        own =
            queued_rests (doing_made meaning r t.part e)
            (queued_makes (moment_of r K.words K.free) (workers_of t.before) (workers_of t.behind) (sound.u meaning l r t.before t.part t.behind e t.reads m K).name
            (sound.u meaning l r t.before t.part t.behind e t.reads m K).number (length r.progress.settled)
            (sound.u meaning l r t.before t.part t.behind e t.reads m K).doing e t.asks
            (sound.holds_entered meaning l r t.before t.part t.behind e t.reads m K)
            (subst (λ w. (tally_in meaning w.doing).queued ≡ 0) (sym (licences.u_is meaning l r t.before t.part t.behind e t.reads m K))
            (queued_enters (moment_of r K.words K.free) (workers_of t.before) (workers_of t.behind) t.part.worker.name t.part.worker.number t.part.worker.doing
            (licences.it meaning l r t.before t.part t.behind e t.reads m K).0
            (licences.right_item meaning l r t.before t.part t.behind e t.reads m K) (sound.small meaning l r t.before t.part t.behind e t.reads m K)
            (licences.holds_here meaning l r t.before t.part t.behind e t.reads m K)
            (all_from_at HasNoneQueued 1 t.before t.behind t.part (subst (AllFrom HasNoneQueued 1) t.is.is h)))))

    pub queued_led : (first r : Run Op) → Leads meaning first r → IsSound meaning first → AllFrom HasNoneQueued 1 first.parts → AllFrom HasNoneQueued 1 r.parts
    queued_led first r here K h = h
    queued_led first r (turn {q = q} {worker = v} {e = e} {told = told_it} led t) K h =
        queued_turned q r v e told_it t (sound_led meaning l first q led K) (queued_led first q led K h)

-- ---- the bounds of replies

more_needed : (k : Kind) (room few many workers : ℕ) → few ≤ many → room < rows_needed k * (few + workers) → room < rows_needed k * (many + workers)
more_needed List_kind room few many workers le h = omega (arith, le, h)
more_needed Hash room few many workers le h = omega (arith, le, h)
more_needed Tree room few many workers le h = omega (arith, le, h)

bounded_later : (lay : Layout) (room : ℕ) (m n : State) (settled more : List Entry) (reply : Reply) → ((word : ℕ) → shadow_at m word ≤ shadow_at n word) →
    IsBounded lay room m settled reply → IsBounded lay room n (settled ++ more) reply
bounded_later lay room m n settled more Yes up h = tt
bounded_later lay room m n settled more No up h = tt
bounded_later lay room m n settled more (Found value) up h = tt
bounded_later lay room m n settled more (Full ticket) up h = (
  h.0,
  more_needed lay.kind room (count_by (λ e. is_insert e.call) settled) (count_by (λ e. is_insert e.call) (settled ++ more)) lay.workers
      (let c = count_by-append (λ (e : Entry). is_insert e.call) settled more in omega (arith, c)) h.1,
)
bounded_later lay room m n settled more (Worn word version) up h = (h.0, version_up (shadow_at m word) (shadow_at n word) version (up word) h.1)
  where
    version_up : (v w version : ℕ) → v ≤ w → version ≤ version_of v → version ≤ version_of w
    version_up v w version le h = omega (arith, le, h)

module _ {Op : Type 0} (meaning : Meaning Op) where
  -- each reply that is an outcome is within its bounds
  abbrev pub IsBoundedPart : Run Op → ℕ → Part Op → Type 0
  IsBoundedPart r name p = (k : ℕ) (reply : Reply) → slice_get p.outcomes k ≡ Some (Some (Replied reply)) →
      IsBounded meaning.layout meaning.room r.state r.progress.settled reply

  module _ (l : Lawful meaning) (r next : Run Op) (v : ℕ) (e : Event) (told_it : ℕ) (t : Turned meaning r v e told_it next) (K : IsSound meaning r) (T : IsTold r)
      (h : AllFrom (IsBoundedPart r) 1 r.parts) where
    m : Makes meaning r t.before t.part t.behind e t.reads
    m = makes meaning r next v e told_it t

    abbrev later : Run Op
    later = turned_run meaning r t.before t.part t.behind e t.reads

    stays : (reply : Reply) → IsBounded meaning.layout meaning.room r.state r.progress.settled reply →
        IsBounded meaning.layout meaning.room (later).state (later).progress.settled reply
    stays reply k =
        let g = sound.grows meaning l r t.before t.part t.behind e t.reads m K in
        subst (λ es. IsBounded meaning.layout meaning.room (after r.state e) es reply) (sym g.1)
        (bounded_later meaning.layout meaning.room r.state (after r.state e) r.progress.settled g.0 reply (shadows_rise r.state e) k)

    own_was : IsBoundedPart r (1 + length t.before) t.part
    own_was = all_from_at (IsBoundedPart r) 1 t.before t.behind t.part (subst (AllFrom (IsBoundedPart r) 1) t.is.is h)

    new_one : (x : Doing Op) → doing_made meaning r t.part e ≡ x → (reply : Reply) → reply_in meaning x ≡ Some reply →
        IsBounded meaning.layout meaning.room (later).state (later).progress.settled reply
    new_one (Idle hand) at_x reply is = absurd (none-some reply is)
    new_one (Busy op call begun) at_x reply is =
        (told.says meaning l r t.before t.part t.behind e t.reads m K T op call begun reply at_x is).bounded
    new_one (Evicting evict) at_x reply is = absurd (none-some reply is)

    own_now : (o : Option Reply) → reply_in meaning (doing_made meaning r t.part e) ≡ o → (k : ℕ) (reply : Reply) →
        slice_get (outcomes_after meaning t.part.outcomes t.part.over o) k ≡ Some (Some (Replied reply)) →
        IsBounded meaning.layout meaning.room (later).state (later).progress.settled reply
    own_now None is k reply at_k = stays reply (own_was k reply at_k)
    own_now (Some now) is k reply at_k = by_place (cases_lt k t.part.over) (cases_lt t.part.over k)
      where
        other : t.part.over ≢ k → IsBounded meaning.layout meaning.room (later).state (later).progress.settled reply
        other ne = stays reply (own_was k reply (sym (set_other t.part.outcomes t.part.over k (Some (Replied now)) ne) ∙ at_k))

        here_it : (o : Option (Option Outcome)) → slice_get t.part.outcomes t.part.over ≡ o → k ≡ t.part.over → now ≡ reply
        here_it None gone same = absurd (none_set t.part.outcomes t.part.over gone (sym (ap (slice_get (slice_set t.part.outcomes t.part.over (Some (Replied now)))) same) ∙ at_k))
          where
            none_set : (xs : List (Option Outcome)) (i : ℕ) → slice_get xs i ≡ None → slice_get (slice_set xs i (Some (Replied now))) i ≡ Some (Some (Replied reply)) → ⊥
            none_set [] i g f = cc
            none_set (x ∷ xs) zero g f = cc
            none_set (x ∷ xs) (suc i) g f = none_set xs i g f
        here_it (Some y) there same =
            let q = sym (set_here t.part.outcomes t.part.over (Some (Replied now)) y there)
            ∙ sym (ap (slice_get (slice_set t.part.outcomes t.part.over (Some (Replied now)))) same) ∙ at_k in
            cc

        by_place : (k < t.part.over) ⊎ (t.part.over ≤ k) → (t.part.over < k) ⊎ (k ≤ t.part.over) →
            IsBounded meaning.layout meaning.room (later).state (later).progress.settled reply
        by_place (inl less) y = other (λ q. omega (arith, q, less))
        by_place (inr le) (inl less) = other (λ q. omega (arith, q, less))
        by_place (inr le) (inr ge) =
            subst (IsBounded meaning.layout meaning.room (later).state (later).progress.settled)
            (here_it (slice_get t.part.outcomes t.part.over) refl (omega (arith, le, ge)))
            (new_one (doing_made meaning r t.part e) refl now is)

    bounded_turned : AllFrom (IsBoundedPart next) 1 next.parts
    bounded_turned =
        subst (λ q. AllFrom (IsBoundedPart q) 1 q.parts) (sym (turned_is meaning r next v e told_it t))
        (all_from_put (IsBoundedPart r) (IsBoundedPart later) 1 t.before t.behind t.part (part_made meaning r t.part e)
        (λ n x apart k. λ i reply at_i. stays reply (k i reply at_i))
        (own_now (reply_in meaning (doing_made meaning r t.part e)) refl)
        (subst (AllFrom (IsBoundedPart r) 1) t.is.is h))

  pub bounded_led : (l : Lawful meaning) (first r : Run Op) → Leads meaning first r → IsSound meaning first → IsTold first →
      AllFrom (IsBoundedPart first) 1 first.parts → AllFrom (IsBoundedPart r) 1 r.parts
  bounded_led l first r here K T h = h
  bounded_led l first r (turn {q = q} {worker = v} {e = e} {told = told_it} led t) K T h =
      bounded_turned l q r v e told_it t (sound_led meaning l first q led K) (told_led meaning l first q led K T) (bounded_led l first q led K T h)
