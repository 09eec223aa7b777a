-- What the events that workers ask for may be: allowed, and, where an update is made, an Exchange to the next version.
use Rattle.std.proofs.Common.{◌≡◌, ◌⊎◌, inl, inr, ⊎_elim, ℕ, ◌+◌, ◌≤◌, ◌==◌, ◌&&◌, Bool, true, false, List, [], ◌∷◌, ◌++◌, Option, Some, None, is_none, refl, sym, ◌∙◌, ap, subst, arith, if◌then◌else◌}
use Rattle.std.proofs.lemmas.Option.{same_Some}
use Rattle.flit_words.specs.declared.layouts.Layout.{Layout}
use Rattle.flit_words.specs.Words.{version_of, bare_of}
use Rattle.flit_model.specs.States.{State, word_at, shadow_at}
use Rattle.flit_model.specs.Effects.{IsAllowed, after, with_word}
use Rattle.flit_model.specs.declared.events.Event.{Event}
use Rattle.flit_model.specs.declared.events.Event.TheVariants.{Load, ReadTag, Raise, Lower, Exchange, Persist, Store, Draw}
use Rattle.flit_model.specs.declared.calls.Call.{Call}
use Rattle.flit_place.specs.Tags.{Place, dressed}
use Rattle.flit_place.proofs.WordTags.{version-dressed, version-bare}
use Rattle.flit_place.proofs.Splits.{all_middle}
use Rattle.flit_pv.specs.declared.queues.Noted.{Noted}
use Rattle.flit_pv.specs.declared.exchanges.Exchanging.{Exchanging}
use Rattle.flit_pv.specs.declared.exchanges.Exchanging.TheVariants.{Ready, Tries, TriesBare, WritesBack, Withdraws, Lowers, Ended}
use Rattle.flit_pv.specs.declared.evicts.Evict.{Evict}
use Rattle.flit_pv.specs.Evicts.{evict_asked}
use Rattle.flit_pv.specs.Queues.{is_nil}
use Rattle.flit_pv.specs.Exchanges.{HeldExchange, exchange_asks, ready_asks}
use Rattle.flit_rows.specs.declared.take_row.Taking.{Taking}
use Rattle.flit_rows.specs.declared.take_row.Taking.TheVariants.{Draws, Ended as Take_ended}
use Rattle.flit_rows.specs.Taking.{take_asks}
use Rattle.flit_runs.specs.Workings as run
use Rattle.flit_runs.specs.Workings.{Working, Idles, Loads, VLoads, Confirms, Exchanges, VExchanges, Stores, Fences, Completes, Evicts}
use Rattle.flit_runs.specs.Worlds.{Actor, world_of, event, next, here, gone_on as actor_gone}
use Rattle.flit_runs.specs.Rules.{AsksAllowed}
use Rattle.flit_runs.specs.Soundness.{IsSound, ExchangeKnows}
use Rattle.flit_runs.proofs.Growth.{version-le}
use Rattle.flit_runs.proofs.Opening.{replaced}
use Rattle.flit_runs.proofs.RuleLaws as rules
use Rattle.flit_structure.specs.declared.workers.Worker.{Worker}
use Rattle.flit_structure.specs.Moments.{Moment, with_workers, busy, sweeper}
use Rattle.flit_crew.specs.Machines.{Machine, Works, Takes, machine_asks, machine_exchanges, working_exchanges, exchanges_now}
use Rattle.flit_crew.specs.Crews.{Crew, Holds, stranger_of}
use Rattle.flit_crew.specs.Obligations.{Keeps}
use Rattle.flit_crew.proofs.Moving.{mine, is_sound}
use Rattle.flit_crew.proofs.Drawing.{few}
use Rattle.flit_crew.proofs.CallSteps.{known}

none_some : (e : Event) → None ≡ Some e → ⊥
none_some e q = cc

both : (x y : Bool) → (x && y) ≡ true → y ≡ true
both true y e = e
both false y e = absurd (cc)

-- an Exchange that takes effect is to the next version
pub record ToNext (o : Option Event) : Type 0 where
  pub word : ℕ
  pub from : ℕ
  pub to : ℕ
  pub asks : o ≡ Some (Exchange word from to)
  pub higher : version_of to ≡ version_of from + 1

-- ---- an event that changes what a word holds, its tag aside, finds it persistent

module _ (p : Place) (s : State) (xs : List Actor) (g : Actor) (ys : List Actor) (sound : IsSound p (λ x. false) (world_of s xs g ys)) where
  abbrev pub Replaces : Event → ℕ → Type 0
  Replaces e word = (bare_of (word_at (after s e) word) ≡ bare_of (word_at s word)) ⊎ (bare_of (word_at s word) ≡ shadow_at s word)

  at_rest : (word : ℕ) → bare_of (word_at s word) ≤ shadow_at s word → bare_of (word_at s word) ≡ shadow_at s word
  at_rest word le = ⊎_elim (λ e. e)
      (λ ahead. absurd (behind (version_of (word_at s word)) (version_of (shadow_at s word))
      (subst (λ v. v ≤ version_of (shadow_at s word)) (version-bare (word_at s word)) (version-le (bare_of (word_at s word)) (shadow_at s word) le)) ahead))
      ((sound.words word).close refl)
    where
      behind : (a b : ℕ) → a ≤ b → a ≡ b + 1 → ⊥
      behind a b i e = omega (arith, i, e)

  by_run : (e : Event) → run.asks p g.at ≡ Some e → ((word : ℕ) → shadow_at (after s e) word ≡ shadow_at s word) → (word : ℕ) → Replaces e word
  by_run e asked same word = ⊎_elim (λ le. inr (at_rest word (subst (λ n. bare_of (word_at s word) ≤ n) (same word) le))) (λ q. inl (sym q))
      (replaced p (λ x. false) (world_of s xs g ys) (world_of (after s e) xs (actor_gone p s e [] g) ys) sound (next here (event s xs g ys e [] asked tt)) word
      refl)

  exchange_shadows : (w old new word : ℕ) (t : Bool) → shadow_at (if t then with_word s w new else s) word ≡ shadow_at s word
  exchange_shadows w old new word true = refl
  exchange_shadows w old new word false = refl

  pub replaces_event : (e : Event) → run.asks p g.at ≡ Some e → (word : ℕ) → Replaces e word
  replaces_event (Load w) asked word = inl refl
  replaces_event (ReadTag slot) asked word = inl refl
  replaces_event (Raise slot) asked word = inl refl
  replaces_event (Lower slot) asked word = inl refl
  replaces_event (Exchange w old new) asked word = by_run (Exchange w old new) asked (λ x. exchange_shadows w old new x (word_at s w == old)) word
  replaces_event (Persist w kept) asked word = inl refl
  replaces_event (Store w new) asked word = by_run (Store w new) asked (λ x. refl) word
  replaces_event Draw asked word = inl refl

module _ {G Op : Type 0} (c : Crew G Op) (l : Layout) (p : Place) (free : List ℕ) (keeps : Keeps c l p free) (M : Moment Op) (a : List (Worker Op))
    (name number : ℕ) (b : List (Worker Op)) where
  to_next : (s : State) (m : HeldExchange) (t : Exchanging) → m.at ≡ t → ExchangeKnows p (λ x. false) s t m → exchanges_now p t m ≡ true →
      ToNext (exchange_asks p t m)
  to_next s m Ready at k e = by_queue m.hand.queue refl (p.slot m.word) refl e
    where
      by_queue : (queue : List Noted) → m.hand.queue ≡ queue → (slot : Option ℕ) → p.slot m.word ≡ slot →
          (is_nil m.hand.queue && is_none (p.slot m.word)) ≡ true → ToNext (Some (ready_asks p m m.hand.queue (p.slot m.word)))
      by_queue (n ∷ ns) same slot has q = absurd (clash (sym (ap (λ x. is_nil x && is_none (p.slot m.word)) same) ∙ q))
        where
          clash : false ≡ true → ⊥
          clash z = cc
      by_queue [] same (Some slot) has q = absurd (clash (sym (ap (λ x. is_nil x && is_none (p.slot m.word)) same ∙ ap is_none has) ∙ q))
        where
          clash : false ≡ true → ⊥
          clash z = cc
      by_queue [] same None has q = record {
        word = m.word;
        from = m.from;
        to = dressed p.counted m.to;
        asks = ap (λ x. Some (ready_asks p m x (p.slot m.word))) same ∙ ap (λ o. Some (ready_asks p m [] o)) has;
        higher = version-dressed p.counted m.to ∙ k.1.next;
      }
  to_next s m (Tries slot) at k e = record {
    word = m.word;
    from = m.from;
    to = dressed p.counted m.to;
    asks = refl;
    higher = version-dressed p.counted m.to
        ∙ k.1.new.next;
  }
  to_next s m TriesBare at k e = record {
    word = m.word;
    from = bare_of m.from;
    to = dressed p.counted m.to;
    asks = refl;
    higher =
        version-dressed p.counted m.to ∙ k.1.new.next ∙ ap (λ v. v + 1) (sym (version-bare m.from));
  }
  to_next s m WritesBack at k e = absurd (cc)
  to_next s m Withdraws at k e = absurd (cc)
  to_next s m (Lowers slot found) at k e = absurd (cc)
  to_next s m (Ended how) at k e = absurd (cc)

  module _ (op : Op) (call : Call) (begun : Option ℕ) (holds : Holds c l p free (with_workers M (a ++ busy name number op call begun ∷ b))) where
    by_machine : (m : Machine) → c.anatomy.machine op ≡ m → machine_exchanges p m ≡ true → ToNext (machine_asks p m)
    by_machine (Works (Idles hand)) is e = absurd (cc)
    by_machine (Works (Loads m)) is e = absurd (cc)
    by_machine (Works (VLoads m)) is e = absurd (cc)
    by_machine (Works (Confirms m)) is e = absurd (cc)
    by_machine (Works (Exchanges m)) is e = to_next M.state m m.at refl (known c l p free keeps M a name number op call begun b holds (Exchanges m) is) e
    by_machine (Works (VExchanges m)) is e = absurd (cc)
    by_machine (Works (Stores m)) is e = absurd (cc)
    by_machine (Works (Fences m)) is e = absurd (cc)
    by_machine (Works (Completes m)) is e = absurd (cc)
    by_machine (Works (Evicts m)) is e = absurd (cc)
    by_machine (Takes m) is e = absurd (cc)

    -- a call takes effect by an Exchange to the next version
    pub effects : (c.anatomy.effects op && machine_exchanges p (c.anatomy.machine op)) ≡ true → ToNext (machine_asks p (c.anatomy.machine op))
    effects e = by_machine (c.anatomy.machine op) refl (both (c.anatomy.effects op) (machine_exchanges p (c.anatomy.machine op)) e)

    -- what it asks for may be made
    pub allowed : (m : Machine) → c.anatomy.machine op ≡ m → (e : Event) → machine_asks p m ≡ Some e → IsAllowed M.state e
    allowed (Works w) is e q =
        let r = mine c l p free keeps M a (busy name number op call begun) b holds in
        let front : List Actor = stranger_of holds.stranger ∷ r.before in
        let all : AsksAllowed p M.state r.actor = all_middle (AsksAllowed p M.state) front r.actor r.behind
        (rules.allowed p (λ x. false) (world_of M.state front r.actor r.behind) (is_sound c l p free keeps M a (busy name number op call begun) b holds))
        in
        all e (ap (run.asks p) (r.mine.at ∙ ap Rattle.flit_crew.specs.Machines.working_in is) ∙ q)
    allowed (Takes m) is e q = by_stage m.at refl q
      where
        by_stage : (t : Taking) → m.at ≡ t → take_asks t ≡ Some e → IsAllowed M.state e
        by_stage Draws at i = subst (IsAllowed M.state) (same_Some Draw e i) (few c l p free keeps M a name number op call begun b holds m is at)
        by_stage (Take_ended took) at i = absurd (none_some e i)

    pub replaces : (m : Machine) → c.anatomy.machine op ≡ m → (e : Event) → machine_asks p m ≡ Some e → (word : ℕ) →
        (bare_of (word_at (after M.state e) word) ≡ bare_of (word_at M.state word)) ⊎ (bare_of (word_at M.state word) ≡ shadow_at M.state word)
    replaces (Works w) is e q word =
        let r = mine c l p free keeps M a (busy name number op call begun) b holds in
        let front : List Actor = stranger_of holds.stranger ∷ r.before in
        replaces_event p M.state front r.actor r.behind (is_sound c l p free keeps M a (busy name number op call begun) b holds) e
        (ap (run.asks p) (r.mine.at ∙ ap Rattle.flit_crew.specs.Machines.working_in is) ∙ q) word
    replaces (Takes m) is e q word = by_stage m.at q
      where
        by_stage : (t : Taking) → take_asks t ≡ Some e → (bare_of (word_at (after M.state e) word) ≡ bare_of (word_at M.state word))
            ⊎ (bare_of (word_at M.state word) ≡ shadow_at M.state word)
        by_stage Draws i = subst (λ x. (bare_of (word_at (after M.state x) word) ≡ bare_of (word_at M.state word))
            ⊎ (bare_of (word_at M.state word) ≡ shadow_at M.state word)) (same_Some Draw e i) (inl refl)
        by_stage (Take_ended took) i = absurd (none_some e i)

  pub evict_replaces : (m : Evict) → Holds c l p free (with_workers M (a ++ sweeper name number m ∷ b)) → (e : Event) → evict_asked m ≡ Some e → (word : ℕ) →
      (bare_of (word_at (after M.state e) word) ≡ bare_of (word_at M.state word)) ⊎ (bare_of (word_at M.state word) ≡ shadow_at M.state word)
  evict_replaces m holds e q word =
      let r = mine c l p free keeps M a (sweeper name number m) b holds in
      let front : List Actor = stranger_of holds.stranger ∷ r.before in
      replaces_event p M.state front r.actor r.behind (is_sound c l p free keeps M a (sweeper name number m) b holds) e (ap (run.asks p) r.mine.at ∙ q) word

  pub evict_allowed : (m : Evict) → Holds c l p free (with_workers M (a ++ sweeper name number m ∷ b)) → (e : Event) → evict_asked m ≡ Some e →
      IsAllowed M.state e
  evict_allowed m holds e q =
      let r = mine c l p free keeps M a (sweeper name number m) b holds in
      let front : List Actor = stranger_of holds.stranger ∷ r.before in
      let all : AsksAllowed p M.state r.actor = all_middle (AsksAllowed p M.state) front r.actor r.behind
      (rules.allowed p (λ x. false) (world_of M.state front r.actor r.behind) (is_sound c l p free keeps M a (sweeper name number m) b holds)) in
      all e (ap (run.asks p) r.mine.at ∙ q)
