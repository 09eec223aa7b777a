-- A worker's tally counts the write-backs that its turns made, and each load that it counts has queued its word or not.
use Rattle.std.proofs.Common.{◌≡◌, ◌≢◌, ℕ, ◌+◌, ◌-◌, ◌<◌, ◌^◌, ◌&&◌, eqb, Bool, true, false, cond, min, List, [], ◌∷◌, ◌++◌, length, refl, sym, ◌∙◌, ap, subst, arith, Option, Some, None}
use Rattle.std.proofs.lemmas.Bool.{eqb-true, eq-eqb}
use Rattle.std.proofs.lemmas.Option.{none-some}
use Rattle.flit_model.specs.Effects.{answer}
use Rattle.flit_model.specs.declared.calls.Item.{Item}
use Rattle.flit_model.specs.declared.calls.Item.TheVariants.{Call as Call_item, Evict as Evict_item}
use Rattle.flit_model.specs.declared.calls.Reply.{Reply}
use Rattle.flit_model.specs.declared.calls.Tally.{Tally}
use Rattle.flit_model.specs.declared.calls.Work.{Work}
use Rattle.flit_model.specs.declared.events.Event.{Event}
use Rattle.flit_model.specs.declared.events.Event.TheVariants.{Load, Persist}
use Rattle.flit_model.specs.declared.found.Recovered.{Recovered}
use Rattle.flit_model.proofs.Counting.{count_by-cons}
use Rattle.flit_words.specs.Words.{bare_of}
use Rattle.flit_pv.specs.declared.evicts.Evict.{Evict}
use Rattle.flit_pv.specs.declared.evicts.Evicting.{Evicting as Evict_at}
use Rattle.flit_pv.specs.declared.evicts.Evicting.TheVariants.{Reads, WritesBack, Done}
use Rattle.flit_pv.specs.Evicts.{evict_asks, evict_asked, evict_takes}
use Rattle.flit_structure.specs.declared.workers.Doing.{Doing}
use Rattle.flit_structure.specs.declared.workers.Doing.TheVariants.{Idle, Busy, Evicting}
use Rattle.flit_structure.specs.declared.workers.Worker.{Worker}
use Rattle.flit_structure.specs.Moments.{Moment, with_workers}
use Rattle.flit_structure.specs.Meanings.{Meaning, asks, goes_on, replied}
use Rattle.flit_structure.specs.Lawful.{Lawful, AreLoadsSplit, is_persist, persists_after}
use Rattle.flit_sched.specs.declared.runs.Turn.{Turn}
use Rattle.flit_sched.specs.declared.runs.Turn.TheVariants.{Event as Event_turn, Idle as Idle_turn}
use Rattle.flit_sched.specs.Runs.{Part, Run, moment_of, workers_of}
use Rattle.flit_sched.specs.Openings.{IsRightItem, opened_run}
use Rattle.flit_sched.specs.Turns.{IsTurn, Turned, enters, rests, hand_over, hand_replied, hand_evicted, tally_in}
use Rattle.flit_sched.specs.Views.{OfWorker}
use Rattle.flit_sched.proofs.StepLaws.{at, may_start}
use Rattle.flit_histories.specs.Following.{Given, Follows, has_persisted, persists_by}
use Rattle.flit_histories.specs.Reached.{Leads, here, turn, IsStart}
use Rattle.flit_histories.proofs.CountedRuns.{all_first}
use Rattle.flit_histories.proofs.FirstRuns.{opened_sound}
use Rattle.flit_histories.proofs.LedParts.{follows_led}
use Rattle.flit_histories.proofs.PartLists.{AllFrom, all_from_at, all_from_map, all_from_put}
use Rattle.flit_histories.proofs.TurnedRuns.{Makes, turned_is, makes, part_made, doing_made}
use Rattle.flit_histories.proofs.SoundRuns as sound
use Rattle.flit_histories.proofs.SoundRuns.{IsSound}
use Rattle.flit_histories.proofs.ReachedRuns.{sound_led}
use Rattle.flit_histories.proofs.Licences as licences

-- what an event makes of these counts of a tally
record CountsOn (e : Event) (was now : Tally) : Type 0 where
  pub split : AreLoadsSplit was → AreLoadsSplit now
  pub persists : now.persists ≡ persists_after e was.persists

counts_begun : (e : Event) (was begun now : Tally) → begun ≡ record was { tries = begun.tries } → CountsOn e begun now → CountsOn e was now
counts_begun e was begun now same k = record {
  split = λ h. k.split (subst AreLoadsSplit (sym same) h);
  persists = k.persists ∙ ap (λ (t : Tally). persists_after e t.persists) same;
}

same_event : (a b : Event) → Some a ≡ Some b → a ≡ b
same_event a b h = cc

evict_counts : (w : Evict_at) (m : Evict) (e : Event) (told_it : ℕ) → evict_asks w m ≡ Some e → CountsOn e m.hand.tally (evict_takes w m told_it).hand.tally
evict_counts Reads m e told_it is =
    subst (λ x. CountsOn x m.hand.tally (evict_takes Reads m told_it).hand.tally) (same_event (Load m.word) e is) (record { split = λ h. h; persists = refl })
evict_counts (WritesBack raw) m e told_it is =
    subst (λ x. CountsOn x m.hand.tally (evict_takes (WritesBack raw) m told_it).hand.tally) (same_event (Persist m.word (bare_of raw)) e is)
    (record { split = λ h. h; persists = refl })
evict_counts Done m e told_it is = absurd (none-some e is)

-- another worker's count stays, and its own goes up by a write-back
same_made : (v n c : ℕ) (p : Bool) → v ≢ n → c ≡ cond (eqb v n && p) 1 0 + c
same_made v n c p ne = by_test (eqb v n) refl
  where
    by_test : (b : Bool) → eqb v n ≡ b → c ≡ cond (b && p) 1 0 + c
    by_test true is = absurd (ne (eqb-true v n is))
    by_test false is = omega arith

none_made : (b : Bool) (c : ℕ) → c ≡ cond (b && false) 1 0 + c
none_made true c = omega arith
none_made false c = omega arith

one_made : (v n c was : ℕ) (e : Event) → v ≡ n → was ≡ min c (2 ^ 64 - 1) →
    persists_after e was ≡ min (cond (eqb v n && is_persist e) 1 0 + c) (2 ^ 64 - 1)
one_made v n c was e same h =
    subst (λ b. persists_after e was ≡ min (cond (b && is_persist e) 1 0 + c) (2 ^ 64 - 1)) (sym (eq-eqb v n same)) (by_kind (is_persist e))
  where
    by_kind : (b : Bool) → cond b (min (was + 1) (2 ^ 64 - 1)) was ≡ min (cond b 1 0 + c) (2 ^ 64 - 1)
    by_kind true = omega (arith, h)
    by_kind false = omega (arith, h)

module _ {Op : Type 0} (meaning : Meaning Op) where
  tally_rests : (d : Doing Op) → tally_in meaning (rests meaning d (hand_over meaning d)) ≡ tally_in meaning d
  tally_rests (Idle hand) = refl
  tally_rests (Busy op call begun) = by_reply (replied meaning op)
    where
      by_reply : (o : Option Reply) → tally_in meaning (rests meaning (Busy op call begun) (hand_replied meaning op o)) ≡ tally_in meaning (Busy op call begun)
      by_reply None = refl
      by_reply (Some reply) = refl
  tally_rests (Evicting evict) = by_event (evict_asked evict)
    where
      by_event : (o : Option Event) → tally_in meaning (rests meaning (Evicting evict) (hand_evicted meaning evict o)) ≡ evict.hand.tally
      by_event None = refl
      by_event (Some e) = refl

  -- so many write-backs are counted
  abbrev HasCounted : (ℕ → ℕ) → ℕ → Part Op → Type 0
  HasCounted made name p = (tally_in meaning p.worker.doing).persists ≡ min (made name) (2 ^ 64 - 1)

  abbrev HasSplit : ℕ → Part Op → Type 0
  HasSplit name p = AreLoadsSplit (tally_in meaning p.worker.doing)

  module _ (l : Lawful meaning) where
    tally_enters : (M : Moment Op) (a b : List (Worker Op)) (name number : ℕ) (doing : Doing Op) (item : Item) →
        IsRightItem meaning.layout item → number < 4294967295 → meaning.holds (with_workers M (a ++ at name number doing ∷ b)) →
        let begun = tally_in meaning (enters meaning (at name number doing) doing (Some item)).doing in
        begun ≡ record (tally_in meaning doing) { tries = begun.tries }
    tally_enters M a b name number (Idle hand) (Call_item call) right small holds =
        (l.tally_first M a name number hand call b (may_start meaning l M a b name number hand call right small holds) holds).same
    tally_enters M a b name number (Idle hand) (Evict_item word) right small holds = refl
    tally_enters M a b name number (Busy op call begun) item right small holds = refl
    tally_enters M a b name number (Evicting evict) item right small holds = refl

    tally_makes : (M : Moment Op) (a b : List (Worker Op)) (name number settled : ℕ) (doing : Doing Op) (e : Event) → asks meaning doing ≡ Some e →
        meaning.holds (with_workers M (a ++ at name number doing ∷ b)) →
        CountsOn e (tally_in meaning doing) (tally_in meaning (goes_on meaning settled doing (answer M.state e)))
    tally_makes M a b name number settled (Idle hand) e asks_e holds = absurd (none-some e asks_e)
    tally_makes M a b name number settled (Busy op call begun) e asks_e holds =
        let g = l.tallies M a name number op call begun b e asks_e holds in
        record { split = g.split; persists = g.persists }
    tally_makes M a b name number settled (Evicting evict) e asks_e holds = evict_counts evict.at evict e (answer M.state e) asks_e

    module _ (r next : Run Op) (v : ℕ) (e : Event) (told_it : ℕ) (t : Turned meaning r v e told_it next) (K : IsSound meaning r) where
      m : Makes meaning r t.before t.part t.behind e t.reads
      m = makes meaning r next v e told_it t

      begun_is : let begun = tally_in meaning (sound.u meaning l r t.before t.part t.behind e t.reads m K).doing in
          begun ≡ record (tally_in meaning t.part.worker.doing) { tries = begun.tries }
      begun_is =
          subst (λ w. tally_in meaning w.doing ≡ record (tally_in meaning t.part.worker.doing) { tries = (tally_in meaning w.doing).tries })
          (sym (licences.u_is meaning l r t.before t.part t.behind e t.reads m K))
          (tally_enters (moment_of r K.words K.free) (workers_of t.before) (workers_of t.behind) t.part.worker.name t.part.worker.number t.part.worker.doing
          (licences.it meaning l r t.before t.part t.behind e t.reads m K).0
          (licences.right_item meaning l r t.before t.part t.behind e t.reads m K) (sound.small meaning l r t.before t.part t.behind e t.reads m K)
          (licences.holds_here meaning l r t.before t.part t.behind e t.reads m K))

      own_counts : CountsOn e (tally_in meaning t.part.worker.doing) (tally_in meaning (part_made meaning r t.part e).worker.doing)
      own_counts =
          subst (CountsOn e (tally_in meaning t.part.worker.doing)) (sym (tally_rests (doing_made meaning r t.part e)))
          (counts_begun e (tally_in meaning t.part.worker.doing)
          (tally_in meaning (sound.u meaning l r t.before t.part t.behind e t.reads m K).doing)
          (tally_in meaning (doing_made meaning r t.part e)) begun_is
          (tally_makes (moment_of r K.words K.free) (workers_of t.before) (workers_of t.behind)
          (sound.u meaning l r t.before t.part t.behind e t.reads m K).name
          (sound.u meaning l r t.before t.part t.behind e t.reads m K).number (length r.progress.settled)
          (sound.u meaning l r t.before t.part t.behind e t.reads m K).doing e t.asks
          (sound.holds_entered meaning l r t.before t.part t.behind e t.reads m K)))

      split_turned : AllFrom HasSplit 1 r.parts → AllFrom HasSplit 1 next.parts
      split_turned h =
          let here_it = subst (AllFrom HasSplit 1) t.is.is h in
          subst (λ q. AllFrom HasSplit 1 q.parts) (sym (turned_is meaning r next v e told_it t))
          (all_from_put HasSplit HasSplit 1 t.before t.behind t.part (part_made meaning r t.part e) (λ n x apart k. k)
          ((own_counts).split (all_from_at HasSplit 1 t.before t.behind t.part here_it)) here_it)

      counted_turned : (made : ℕ → ℕ) → AllFrom (HasCounted made) 1 r.parts →
          AllFrom (HasCounted (λ w. cond (eqb v w && is_persist e) 1 0 + made w)) 1 next.parts
      counted_turned made h =
          let later : ℕ → ℕ = λ w. cond (eqb v w && is_persist e) 1 0 + made w in
          let here_it = subst (AllFrom (HasCounted made) 1) t.is.is h in
          let named : v ≡ 1 + length t.before = (let n = t.is.number in omega (arith, n)) in
          subst (λ q. AllFrom (HasCounted later) 1 q.parts) (sym (turned_is meaning r next v e told_it t))
          (all_from_put (HasCounted made) (HasCounted later) 1 t.before t.behind t.part (part_made meaning r t.part e)
          (λ n x apart k. k ∙ ap (λ c. min c (2 ^ 64 - 1)) (same_made v n (made n) (is_persist e) (λ same. apart (sym same ∙ named))))
          ((own_counts).persists
          ∙ one_made v (1 + length t.before) (made (1 + length t.before)) (tally_in meaning t.part.worker.doing).persists e named
          (all_from_at (HasCounted made) 1 t.before t.behind t.part here_it)) here_it)

    counted_turn : (r next : Run Op) (v : ℕ) (t : Turn) (made : ℕ → ℕ) → IsTurn meaning r v t next → IsSound meaning r → AllFrom (HasCounted made) 1 r.parts →
        AllFrom (HasCounted (λ w. cond (eqb v w && has_persisted t) 1 0 + made w)) 1 next.parts
    counted_turn r next v (Event_turn e told) made is K h = counted_turned r next v e told is K made h
    counted_turn r next v Idle_turn made is K h =
        subst (λ q. AllFrom (HasCounted (λ w. cond (eqb v w && false) 1 0 + made w)) 1 q.parts) (sym is.same)
        (all_from_map (HasCounted made) (HasCounted (λ w. cond (eqb v w && false) 1 0 + made w)) 1 r.parts
        (λ n x le k. k ∙ ap (λ c. min c (2 ^ 64 - 1)) (none_made (eqb v n) (made n))) h)

    counted_follows : (r next : Run Op) (ts : List Given) (made : ℕ → ℕ) → Follows meaning r ts next → IsSound meaning r → AllFrom (HasCounted made) 1 r.parts →
        AllFrom (HasCounted (λ w. persists_by w ts + made w)) 1 next.parts
    counted_follows r next [] made f K h =
        subst (λ q. AllFrom (HasCounted (λ w. persists_by w [] + made w)) 1 q.parts) (sym f)
        (all_from_map (HasCounted made) (HasCounted (λ w. persists_by w [] + made w)) 1 r.parts
        (λ n x le k. k ∙ ap (λ c. min c (2 ^ 64 - 1)) (none_more (made n))) h)
      where
        none_more : (c : ℕ) → c ≡ 0 + c
        none_more c = omega arith
    counted_follows r next (t ∷ ts) made f K h =
        let one : ℕ → ℕ = λ w. cond (eqb t.worker w && has_persisted t.turn) 1 0 + made w in
        let led = follows_led meaning r r f.0 (t ∷ []) (f.0, f.1, refl) here in
        all_from_map (HasCounted (λ w. persists_by w ts + one w)) (HasCounted (λ w. persists_by w (t ∷ ts) + made w)) 1 next.parts
        (λ n x le k. k ∙ ap (λ c. min c (2 ^ 64 - 1)) (all_made n))
        (counted_follows f.0 next ts one f.2 (sound_led meaning l r f.0 led K) (counted_turn r f.0 t.worker t.turn made f.1 K h))
      where
        all_made : (n : ℕ) → persists_by n ts + (cond (eqb t.worker n && has_persisted t.turn) 1 0 + made n) ≡ persists_by n (t ∷ ts) + made n
        all_made n = let c = count_by-cons (λ (g : Given). eqb g.worker n && has_persisted g.turn) t ts in omega (arith, c)

    split_led : (first r : Run Op) → Leads meaning first r → IsSound meaning first → AllFrom HasSplit 1 first.parts → AllFrom HasSplit 1 r.parts
    split_led first r here K h = h
    split_led first r (turn {q = q} {worker = v} {e = e} {told = told_it} led t) K h =
        split_turned q r v e told_it t (sound_led meaning l first q led K) (split_led first q led K h)

    module _ (start : Recovered) (works : List Work) (h : IsStart meaning start works) (turns : List Given) (r : Run Op)
        (f : Follows meaning (opened_run meaning start works) turns r) (worker : ℕ) where
      abbrev first : Run Op
      first = opened_run meaning start works

      pub persists_counted : OfWorker r worker (λ p. (tally_in meaning p.worker.doing).persists ≡ min (persists_by worker turns) (2 ^ 64 - 1))
      persists_counted a p b part =
          let all = counted_follows first r turns (λ w. 0) f (opened_sound meaning l start works h)
          (all_first meaning l (HasCounted (λ w. 0)) (λ n w. refl) 1 works) in
          let it = all_from_at (HasCounted (λ w. persists_by w turns + 0)) 1 a b p
          (subst (AllFrom (HasCounted (λ w. persists_by w turns + 0)) 1) part.is all) in
          let named : 1 + length a ≡ worker = (let n = part.number in omega (arith, n)) in
          let none : persists_by (1 + length a) turns + 0 ≡ persists_by (1 + length a) turns = omega arith in
          it ∙ ap (λ c. min c (2 ^ 64 - 1)) none ∙ ap (λ n. min (persists_by n turns) (2 ^ 64 - 1)) named

      pub loads_split : OfWorker r worker (λ p. AreLoadsSplit (tally_in meaning p.worker.doing))
      loads_split a p b part =
          all_from_at HasSplit 1 a b p
          (subst (AllFrom HasSplit 1) part.is
          (split_led first r (follows_led meaning first first r turns f here) (opened_sound meaning l start works h)
          (all_first meaning l HasSplit (λ n w. λ low. refl) 1 works)))
