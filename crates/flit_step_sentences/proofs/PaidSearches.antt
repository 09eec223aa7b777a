-- The searches that a worker has begun are at most what its lost exchanges and helped removals excuse, and one more for each of
-- its calls.
use Rattle.std.proofs.Common.{◌≡◌, ◌≢◌, ℕ, ◌+◌, ◌-◌, ◌<◌, ◌≤◌, ◌^◌, eqb, Bool, true, false, cond, min, List, [], ◌∷◌, ◌++◌, length, refl, sym, ◌∙◌, ap, subst, arith, Option, Some, None, slice_get}
use Rattle.std.proofs.lemmas.Bool.{eqb-true, eq-eqb, false≢true}
use Rattle.std.proofs.lemmas.Option.{none-some}
use Rattle.flit_words.specs.declared.layouts.Kind.{Kind}
use Rattle.flit_words.specs.declared.layouts.Kind.TheVariants.{List as List_kind, Hash, Tree}
use Rattle.flit_model.specs.Effects.{answer}
use Rattle.flit_model.specs.declared.calls.Item.{Item}
use Rattle.flit_model.specs.declared.calls.Item.TheVariants.{Call as Call_item, Evict as Evict_item}
use Rattle.flit_model.specs.declared.calls.Reply.{Reply}
use Rattle.flit_model.specs.declared.calls.Tally.{Tally}
use Rattle.flit_model.specs.declared.calls.Work.{Work}
use Rattle.flit_model.specs.declared.events.Event.{Event}
use Rattle.flit_model.specs.declared.found.Recovered.{Recovered}
use Rattle.flit_pv.specs.declared.evicts.Evict.{Evict}
use Rattle.flit_pv.specs.declared.evicts.Evicting.{Evicting as Evict_at}
use Rattle.flit_pv.specs.declared.evicts.Evicting.TheVariants.{Reads, WritesBack, Done}
use Rattle.flit_pv.specs.Evicts.{evict_asked, evict_takes}
use Rattle.flit_structure.specs.declared.workers.Doing.{Doing}
use Rattle.flit_structure.specs.declared.workers.Doing.TheVariants.{Idle, Busy, Evicting}
use Rattle.flit_structure.specs.declared.workers.Worker.{Worker}
use Rattle.flit_structure.specs.Moments.{Moment, with_workers}
use Rattle.flit_structure.specs.Meanings.{Meaning, asks, goes_on, replied, tally}
use Rattle.flit_structure.specs.Lawful.{Lawful, AreSearchesBounded, IsBelowTop, excuses, is_persist, persists_after}
use Rattle.flit_sched.specs.declared.runs.Turn.{Turn}
use Rattle.flit_sched.specs.declared.runs.Turn.TheVariants.{Event as Event_turn, Idle as Idle_turn}
use Rattle.flit_sched.specs.Runs.{Part, Run, IsPart, moment_of, workers_of}
use Rattle.flit_sched.specs.Openings.{IsRightItem, opened_run}
use Rattle.flit_sched.specs.Turns.{IsTurn, Turned, enters, rests, hand_over, hand_replied, hand_evicted, tally_in}
use Rattle.flit_sched.proofs.StepLaws.{at, may_start}
use Rattle.flit_histories.specs.Counts.{Count, no_count, count_at, count_in, count_made, count_turned, Counts}
use Rattle.flit_histories.specs.Following.{Given, Follows}
use Rattle.flit_histories.specs.Reached.{IsStart}
use Rattle.flit_histories.proofs.CountedRuns.{all_first, bounds_counted, counts_follow, follows_counts}
use Rattle.flit_histories.proofs.FirstRuns.{opened_sound}
use Rattle.flit_histories.proofs.LedParts.{elsewhere, same_part, follows_led}
use Rattle.flit_histories.proofs.Licences as licences
use Rattle.flit_histories.proofs.PartLists.{AllFrom, all_from_at}
use Rattle.flit_histories.proofs.ReachedRuns.{sound_led}
use Rattle.flit_histories.proofs.SoundRuns as sound
use Rattle.flit_histories.proofs.SoundRuns.{IsSound}
use Rattle.flit_histories.proofs.TurnedRuns.{Makes, makes, part_made, doing_made}
use Rattle.flit_histories.specs.Reached.{here}
use Rattle.flit_step_sentences.proofs.OwnLines.{got_between}

-- ---- a tally is below its tops where a later one is

below_more : (n : ℕ) → min (n + 1) (2 ^ 64 - 1) < 2 ^ 64 - 1 → n < 2 ^ 64 - 1
below_more n h = omega (arith, h)

less_persisted : (e : Event) (n : ℕ) → persists_after e n < 2 ^ 64 - 1 → n < 2 ^ 64 - 1
less_persisted e n h = by_kind (is_persist e) h
  where
    by_kind : (b : Bool) → cond b (min (n + 1) (2 ^ 64 - 1)) n < 2 ^ 64 - 1 → n < 2 ^ 64 - 1
    by_kind true k = below_more n k
    by_kind false k = k

below_evict : (w : Evict_at) (m : Evict) (told : ℕ) → IsBelowTop (evict_takes w m told).hand.tally → IsBelowTop m.hand.tally
below_evict Reads m told h = h
below_evict (WritesBack raw) m told h = record {
  loads = h.loads;
  omitted = h.omitted;
  queued = h.queued;
  persists = below_more m.hand.tally.persists h.persists;
  failed = h.failed;
  helped = h.helped;
  tries = h.tries;
}
below_evict Done m told h = h

evict_excused : (k : Kind) (w : Evict_at) (m : Evict) (told n : ℕ) → m.hand.tally.tries ≤ excuses k m.hand.tally + n →
    (evict_takes w m told).hand.tally.tries ≤ excuses k (evict_takes w m told).hand.tally + n
evict_excused k Reads m told n h = h
evict_excused List_kind (WritesBack raw) m told n h = h
evict_excused Hash (WritesBack raw) m told n h = h
evict_excused Tree (WritesBack raw) m told n h = h
evict_excused k Done m told n h = h

less_still : (was now : ℕ) → was ≤ now → now < 2 ^ 64 - 1 → was < 2 ^ 64 - 1
less_still was now le less = omega (arith, le, less)

module _ {Op : Type 0} (meaning : Meaning Op) where
  -- the searches of the calls before, and of this one where it is over, are excused
  abbrev pub IsPaid : Count → ℕ → Doing Op → Type 0
  IsPaid c number (Idle hand) = hand.tally.tries ≤ excuses meaning.layout.kind hand.tally + number
  IsPaid c number (Busy op call begun) = c.start.tries + 1 ≤ excuses meaning.layout.kind c.start + number
  IsPaid c number (Evicting evict) = evict.hand.tally.tries ≤ excuses meaning.layout.kind evict.hand.tally + number

  paid_enters : (name number : ℕ) (doing : Doing Op) (item : Item) (c : Count) → IsPaid c number doing →
      let u = enters meaning (at name number doing) doing (Some item) in
      IsPaid (count_at doing c) u.number u.doing
  paid_enters name number (Idle hand) (Call_item call) c h = omega (arith, h)
  paid_enters name number (Idle hand) (Evict_item word) c h = h
  paid_enters name number (Busy op call begun) item c h = h
  paid_enters name number (Evicting evict) item c h = h

  paid_makes : (number settled told made : ℕ) (doing : Doing Op) (c : Count) → IsPaid c number doing →
      IsPaid (record { start = c.start; made = made }) number (goes_on meaning settled doing told)
  paid_makes number settled told made (Idle hand) c h = h
  paid_makes number settled told made (Busy op call begun) c h = h
  paid_makes number settled told made (Evicting evict) c h = evict_excused meaning.layout.kind evict.at evict told number h

  paid_rests : (number : ℕ) (doing : Doing Op) (c : Count) → IsPaid c number doing →
      AreSearchesBounded meaning.layout.kind c.start (tally_in meaning (rests meaning doing (hand_over meaning doing))) →
      IsPaid c number (rests meaning doing (hand_over meaning doing))
  paid_rests number (Idle hand) c h bound = h
  paid_rests number (Busy op call begun) c h bound = by_reply (replied meaning op) bound
    where
      by_reply : (o : Option Reply) →
          AreSearchesBounded meaning.layout.kind c.start (tally_in meaning (rests meaning (Busy op call begun) (hand_replied meaning op o))) →
          IsPaid c number (rests meaning (Busy op call begun) (hand_replied meaning op o))
      by_reply None b = h
      by_reply (Some reply) b = omega (arith, h, b)
  paid_rests number (Evicting evict) c h bound = by_event (evict_asked evict)
    where
      by_event : (o : Option Event) → IsPaid c number (rests meaning (Evicting evict) (hand_evicted meaning evict o))
      by_event None = h
      by_event (Some e) = h

  below_rests : (doing : Doing Op) → IsBelowTop (tally_in meaning (rests meaning doing (hand_over meaning doing))) → IsBelowTop (tally_in meaning doing)
  below_rests (Idle hand) h = h
  below_rests (Busy op call begun) h = by_reply (replied meaning op) h
    where
      by_reply : (o : Option Reply) → IsBelowTop (tally_in meaning (rests meaning (Busy op call begun) (hand_replied meaning op o))) →
          IsBelowTop (tally meaning op)
      by_reply None k = k
      by_reply (Some reply) k = k
  below_rests (Evicting evict) h = by_event (evict_asked evict) h
    where
      by_event : (o : Option Event) → IsBelowTop (tally_in meaning (rests meaning (Evicting evict) (hand_evicted meaning evict o))) →
          IsBelowTop evict.hand.tally
      by_event None k = k
      by_event (Some e) k = k

  module _ (l : Lawful meaning) where
    below_enters : (M : Moment Op) (a b : List (Worker Op)) (name number : ℕ) (doing : Doing Op) (item : Item) →
        IsRightItem meaning.layout item → number < 4294967295 → meaning.holds (with_workers M (a ++ at name number doing ∷ b)) →
        IsBelowTop (tally_in meaning (enters meaning (at name number doing) doing (Some item)).doing) → IsBelowTop (tally_in meaning doing)
    below_enters M a b name number (Idle hand) (Call_item call) right small holds h =
        let first = l.tally_first M a name number hand call b (may_start meaning l M a b name number hand call right small holds) holds in
        let le = first.tries.least in
        record {
          loads = subst (λ n. n < 2 ^ 64 - 1) (ap (λ (t : Tally). t.loads) first.same) h.loads;
          omitted = subst (λ n. n < 2 ^ 64 - 1) (ap (λ (t : Tally). t.omitted) first.same) h.omitted;
          queued = subst (λ n. n < 2 ^ 64 - 1) (ap (λ (t : Tally). t.queued) first.same) h.queued;
          persists = subst (λ n. n < 2 ^ 64 - 1) (ap (λ (t : Tally). t.persists) first.same) h.persists;
          failed = subst (λ n. n < 2 ^ 64 - 1) (ap (λ (t : Tally). t.failed) first.same) h.failed;
          helped = subst (λ n. n < 2 ^ 64 - 1) (ap (λ (t : Tally). t.helped) first.same) h.helped;
          tries = less_still hand.tally.tries (tally meaning (meaning.begun hand call)).tries le h.tries;
        }
    below_enters M a b name number (Idle hand) (Evict_item word) right small holds h = h
    below_enters M a b name number (Busy op call begun) item right small holds h = h
    below_enters M a b name number (Evicting evict) item right small holds h = h

    below_makes : (M : Moment Op) (a b : List (Worker Op)) (name number settled : ℕ) (doing : Doing Op) (e : Event) → asks meaning doing ≡ Some e →
        meaning.holds (with_workers M (a ++ at name number doing ∷ b)) →
        IsBelowTop (tally_in meaning (goes_on meaning settled doing (answer M.state e))) → IsBelowTop (tally_in meaning doing)
    below_makes M a b name number settled (Idle hand) e asks_e holds h = absurd (none-some e asks_e)
    below_makes M a b name number settled (Busy op call begun) e asks_e holds h =
        let g = l.tallies M a name number op call begun b e asks_e holds in
        let was = tally meaning op in
        let now = tally meaning (meaning.taken op (answer M.state e)) in
        record {
          loads = less_still was.loads now.loads g.loads h.loads;
          omitted = less_still was.omitted now.omitted g.omitted h.omitted;
          queued = less_still was.queued now.queued g.queued h.queued;
          persists = less_persisted e was.persists (subst (λ n. n < 2 ^ 64 - 1) g.persists h.persists);
          failed = less_still was.failed now.failed g.failed.least h.failed;
          helped = less_still was.helped now.helped g.helped.least h.helped;
          tries = less_still was.tries now.tries g.tries.least h.tries;
        }
    below_makes M a b name number settled (Evicting evict) e asks_e holds h = below_evict evict.at evict (answer M.state e) h

    -- what is kept of a worker along turns
    abbrev pub IsPaidPart : Count → Part Op → Type 0
    IsPaidPart c p = IsBelowTop (tally_in meaning p.worker.doing) → IsPaid c p.worker.number p.worker.doing

    module _ (r next : Run Op) (w : ℕ) (e : Event) (told_it : ℕ) (t : Turned meaning r w e told_it next) (K : IsSound meaning r) (c : Count)
        (bound : IsBelowTop (tally_in meaning (part_made meaning r t.part e).worker.doing) →
        AreSearchesBounded meaning.layout.kind (count_made meaning r e t.part c).start (tally_in meaning (part_made meaning r t.part e).worker.doing))
        (h : IsPaidPart c t.part) where
      m : Makes meaning r t.before t.part t.behind e t.reads
      m = makes meaning r next w e told_it t

      abbrev it : Item
      it = (licences.it meaning l r t.before t.part t.behind e t.reads m K).0

      u_is : sound.u meaning l r t.before t.part t.behind e t.reads m K ≡ enters meaning t.part.worker t.part.worker.doing (Some it)
      u_is = licences.u_is meaning l r t.before t.part t.behind e t.reads m K

      low_here : IsBelowTop (tally_in meaning (part_made meaning r t.part e).worker.doing) → IsBelowTop (tally_in meaning t.part.worker.doing)
      low_here low =
          below_enters (moment_of r K.words K.free) (workers_of t.before) (workers_of t.behind) t.part.worker.name t.part.worker.number t.part.worker.doing it
          (licences.right_item meaning l r t.before t.part t.behind e t.reads m K) (sound.small meaning l r t.before t.part t.behind e t.reads m K)
          (licences.holds_here meaning l r t.before t.part t.behind e t.reads m K)
          (subst (λ x. IsBelowTop (tally_in meaning x.doing)) u_is
          (below_makes (moment_of r K.words K.free) (workers_of t.before) (workers_of t.behind)
          (sound.u meaning l r t.before t.part t.behind e t.reads m K).name
          (sound.u meaning l r t.before t.part t.behind e t.reads m K).number (length r.progress.settled)
          (sound.u meaning l r t.before t.part t.behind e t.reads m K).doing e t.asks
          (sound.holds_entered meaning l r t.before t.part t.behind e t.reads m K)
          (below_rests (doing_made meaning r t.part e) low)))

      pub paid_own : IsPaidPart (count_made meaning r e t.part c) (part_made meaning r t.part e)
      paid_own low =
          paid_rests (sound.u meaning l r t.before t.part t.behind e t.reads m K).number (doing_made meaning r t.part e) (count_made meaning r e t.part c)
          (paid_makes (sound.u meaning l r t.before t.part t.behind e t.reads m K).number (length r.progress.settled) (answer r.state e)
          (count_made meaning r e t.part c).made (sound.u meaning l r t.before t.part t.behind e t.reads m K).doing (count_at t.part.worker.doing c)
          (subst (λ x. IsPaid (count_at t.part.worker.doing c) x.number x.doing) (sym u_is)
          (paid_enters t.part.worker.name t.part.worker.number t.part.worker.doing it c (h (low_here low)))))
          (bound low)

    counts_joined : (w : ℕ) (a b d : Run Op) (c k n : Count) (ts us : List Given) → Counts meaning w a c ts b k → Counts meaning w b k us d n →
        Counts meaning w a c (ts ++ us) d n
    counts_joined w a b d c k n [] us x y = subst (λ q. Counts meaning w q c us d n) x.0 (subst (λ z. Counts meaning w b z us d n) x.1 y)
    counts_joined w a b d c k n (t ∷ ts) us x y =
        (x.0, x.1, counts_joined w x.0 b d (cond (eqb t.worker w) (count_turned meaning w a t.turn c) c) k n ts us x.2 y)

    module _ (start : Recovered) (works : List Work) (starts : IsStart meaning start works) (w : ℕ) where
      abbrev first : Run Op
      first = opened_run meaning start works

      abbrev IsPaidIn : Count → Run Op → Type 0
      IsPaidIn c r = (a : List (Part Op)) (p : Part Op) (b : List (Part Op)) → IsPart r w a p b → IsPaidPart c p

      abbrev IsBoundIn : Count → Run Op → Type 0
      IsBoundIn c r = (a : List (Part Op)) (p : Part Op) (b : List (Part Op)) → IsPart r w a p b → IsBelowTop (tally_in meaning p.worker.doing) →
          AreSearchesBounded meaning.layout.kind c.start (tally_in meaning p.worker.doing)

      bound_in : (ts : List Given) (r : Run Op) (c : Count) → Counts meaning w first no_count ts r c → IsBoundIn c r
      bound_in ts r c counts a p b is low = (bounds_counted meaning l start works ts r w c starts counts a p b is low).searches

      own_turn : (r next : Run Op) (e : Event) (told_it : ℕ) (c : Count) (t : Turned meaning r w e told_it next) → IsSound meaning r →
          IsBoundIn (count_turned meaning w r (Event_turn e told_it) c) next → IsPaidIn c r → IsPaidIn (count_turned meaning w r (Event_turn e told_it) c) next
      own_turn r next e told_it c t K bound h =
          subst (λ o. IsBoundIn (count_in meaning r e o c) next → IsPaidIn (count_in meaning r e o c) next) (sym got) here_it bound
        where
          got : slice_get r.parts (w - 1) ≡ Some t.part
          got = let n = t.is.number in let place : w - 1 ≡ length t.before = omega (arith, n) in
              ap (slice_get r.parts) place ∙ ap (λ ps. slice_get ps (length t.before)) t.is.is ∙ got_between t.before t.behind t.part

          here_it : IsBoundIn (count_made meaning r e t.part c) next → IsPaidIn (count_made meaning r e t.part c) next
          here_it k a p b is =
              let mine : IsPart next w t.before (part_made meaning r t.part e) t.behind = record { is = t.parts; number = t.is.number } in
              let same = same_part next w t.before t.behind a b (part_made meaning r t.part e) p mine is in
              subst (IsPaidPart (count_made meaning r e t.part c)) same
              (paid_own r next w e told_it t K c (k t.before (part_made meaning r t.part e) t.behind mine) (h t.before t.part t.behind t.is))

      other_turn : (r next : Run Op) (v : ℕ) (e : Event) (told_it : ℕ) (c : Count) → v ≢ w → Turned meaning r v e told_it next → IsPaidIn c r → IsPaidIn c next
      other_turn r next v e told_it c apart t h a p b is =
          let n = is.number in
          let m = t.is.number in
          let y = elsewhere a b t.before t.behind p (part_made meaning r t.part e) t.part (sym is.is ∙ t.parts)
          (λ same. apart (m ∙ ap (λ k. k + 1) (sym same) ∙ sym n)) in
          h y.0 p y.1 (record { is = t.is.is ∙ y.2; number = n ∙ ap (λ k. k + 1) (sym y.3) })

      one_turn : (r next : Run Op) (v : ℕ) (t : Turn) (c : Count) (b : Bool) → eqb v w ≡ b → IsTurn meaning r v t next → IsSound meaning r →
          IsBoundIn (cond b (count_turned meaning w r t c) c) next → IsPaidIn c r → IsPaidIn (cond b (count_turned meaning w r t c) c) next
      one_turn r next v (Event_turn e told_it) c true is t K bound h =
          own_turn r next e told_it c (subst (λ x. Turned meaning r x e told_it next) (eqb-true v w is) t) K bound h
      one_turn r next v (Event_turn e told_it) c false is t K bound h =
          other_turn r next v e told_it c (λ same. false≢true (sym is ∙ eq-eqb v w same)) t h
      one_turn r next v Idle_turn c true is t K bound h = subst (IsPaidIn c) (sym t.same) h
      one_turn r next v Idle_turn c false is t K bound h = subst (IsPaidIn c) (sym t.same) h

      first_paid : IsPaidIn no_count first
      first_paid a p b is low =
          all_from_at (λ n x. IsPaid no_count x.worker.number x.worker.doing) 1 a b p
          (subst (AllFrom (λ n x. IsPaid no_count x.worker.number x.worker.doing) 1) is.is
          (all_first meaning l (λ n x. IsPaid no_count x.worker.number x.worker.doing) (λ n x. omega arith) 1 works))

      along : (ts us : List Given) (r next : Run Op) (c d : Count) → Counts meaning w first no_count ts r c → Counts meaning w r c us next d →
          IsPaidIn c r → IsPaidIn d next
      along ts [] r next c d x y h = subst (λ z. IsPaidIn z next) (sym y.1) (subst (IsPaidIn c) (sym y.0) h)
      along ts (t ∷ us) r next c d x y h =
          let k = cond (eqb t.worker w) (count_turned meaning w r t.turn c) c in
          let more_so = counts_joined w first r y.0 no_count c k ts (t ∷ []) x (y.0, y.1, (refl, refl)) in
          let K = sound_led meaning l first r (follows_led meaning first first r ts (counts_follow meaning w first no_count ts r c x) here)
          (opened_sound meaning l start works starts) in
          along (ts ++ t ∷ []) us y.0 next k d more_so y.2
          (one_turn r y.0 t.worker t.turn c (eqb t.worker w) refl y.1 K (bound_in (ts ++ t ∷ []) y.0 k more_so) h)

      all_paid : (d : Doing Op) (c : Count) (number : ℕ) → IsPaid c number d → AreSearchesBounded meaning.layout.kind c.start (tally_in meaning d) →
          (tally_in meaning d).tries ≤ excuses meaning.layout.kind (tally_in meaning d) + number
      all_paid (Idle hand) c number h b = h
      all_paid (Busy op call begun) c number h b = omega (arith, h, b)
      all_paid (Evicting evict) c number h b = h

      -- each worker's searches are excused, but for one of each of its calls
      pub searches_paid : (given : List Given) (final : Run Op) → Follows meaning first given final → (a : List (Part Op)) (p : Part Op) (b : List (Part Op)) →
          IsPart final w a p b → IsBelowTop (tally_in meaning p.worker.doing) →
          (tally_in meaning p.worker.doing).tries ≤ excuses meaning.layout.kind (tally_in meaning p.worker.doing) + p.worker.number
      searches_paid given final f a p b is low =
          let c = follows_counts meaning w first no_count given final f in
          all_paid p.worker.doing c.0 p.worker.number (along [] given first final no_count c.0 (refl, refl) c.1 first_paid a p b is low)
          (bound_in given final c.0 c.1 a p b is low)
