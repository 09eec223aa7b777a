-- Each event of a call's PExchange keeps all that holds.
use Rattle.std.proofs.Common.{◌≡◌, ◌⊎◌, inl, inr, ⊎_elim, ℕ, ◌==◌, ◌&&◌, Bool, true, false, List, [], ◌∷◌, ◌++◌, length, Option, Some, None, is_none, refl, sym, ◌∙◌, ap, subst, if◌then◌else◌}
use Rattle.std.proofs.lemmas.Bool.{eqb-true}
use Rattle.std.proofs.lemmas.Option.{same_Some}
use Rattle.std.specs.List.{AllByRecursion}
use Rattle.flit_words.specs.declared.layouts.Layout.{Layout}
use Rattle.flit_words.specs.Words.{bare_of, version_of, is_tagged}
use Rattle.flit_model.specs.States.{word_at, IsPersistent}
use Rattle.flit_model.specs.Effects.{after, answer}
use Rattle.flit_model.specs.Settling.{progress_after, takes_effect}
use Rattle.flit_model.specs.declared.events.Event.{Event}
use Rattle.flit_model.specs.declared.events.Event.TheVariants.{Exchange, Raise, Lower, Persist}
use Rattle.flit_model.specs.declared.calls.Call.{Call}
use Rattle.flit_model.specs.declared.calls.Entry.{Entry}
use Rattle.flit_place.specs.Tags.{Place, dressed}
use Rattle.flit_place.proofs.WordTags.{version-bare}
use Rattle.flit_pv.specs.declared.queues.Noted.{Noted}
use Rattle.flit_pv.specs.Exchanges.{HeldExchange}
use Rattle.flit_pv.specs.declared.exchanges.Exchanging.{Exchanging}
use Rattle.flit_pv.specs.declared.exchanges.Exchanging.TheVariants.{Ready, Tries, TriesBare, WritesBack, Withdraws, Lowers, Ended}
use Rattle.flit_pv.specs.Queues.{is_nil, persist_of}
use Rattle.flit_pv.specs.Exchanges.{exchange_asks, ready_asks, exchange_takes, ready_takes, exchange_at, exchange_loses, tries_again, withdraw_asks}
use Rattle.flit_runs.specs.Worlds.{Actor}
use Rattle.flit_runs.specs.Workings as run
use Rattle.flit_runs.specs.Workings.{Exchanges, goes_for, exchange_goes_for}
use Rattle.flit_runs.specs.Worlds as world
use Rattle.flit_runs.specs.Soundness.{Knows, ExchangeKnows, IsNext, IsSafelyRead}
use Rattle.flit_runs.proofs.ExchangeSteps.{around}
use Rattle.flit_runs.proofs.Turns.{safe}
use Rattle.flit_structure.specs.declared.workers.Worker.{Worker}
use Rattle.flit_structure.specs.Moments.{Moment, with_workers, busy, update_of}
use Rattle.flit_structure.specs.Meanings.{first_at}
use Rattle.flit_crew.specs.Machines.{Works, exchanges_now, exchange_part, ToWin, HasLost}
use Rattle.flit_crew.specs.Heaps.{Heap, IsOpen}
use Rattle.flit_crew.specs.Anatomies.{op_taken}
use Rattle.flit_crew.specs.Crews.{Crew, Holds, stranger_of}
use Rattle.flit_crew.specs.Obligations.{Keeps}
use Rattle.flit_crew.proofs.Acting.{Split}
use Rattle.flit_crew.proofs.Going.{r, heap, sound_now}
use Rattle.flit_crew.proofs.Reading.{at_it}
use Rattle.flit_crew.proofs.Winning.{Wins, wins_event}
use Rattle.flit_crew.proofs.Fencing.{fences, exchange_writes}
use Rattle.flit_crew.proofs.Trying.{same_le, raises, lowers, withdraws, clears, lost, fenced}

some_none : (e : Event) → Some e ≡ None → ⊥
some_none e q = cc

none_some : (e : Event) → None ≡ Some e → ⊥
none_some e q = cc

and_true : (b : Bool) → (b && true) ≡ b
and_true true = refl
and_true false = refl

and_false : (b : Bool) → (b && false) ≡ false
and_false true = refl
and_false false = refl

module _ {G Op : Type 0} (c : Crew G Op) (l : Layout) (p : Place) (free : List ℕ) (keeps : Keeps c l p free) (M : Moment Op) (a : List (Worker Op))
    (name number : ℕ) (op : Op) (call : Call) (begun : Option ℕ) (b : List (Worker Op))
    (holds : Holds c l p free (with_workers M (a ++ busy name number op call begun ∷ b))) (m : HeldExchange)
    (is : c.anatomy.machine op ≡ Works (Exchanges m)) where
  abbrev K : ℕ
  K = length M.progress.settled

  abbrev mine : Split c l p free (heap c l p free keeps M a name number op call begun b holds K (same_le K)) a (busy name number op call begun) b holds.actors
  mine = r c l p free keeps M a name number op call begun b holds K (same_le K)

  -- those before it in the world
  abbrev front : List Actor
  front = stranger_of holds.stranger ∷ mine.before

  abbrev here : Heap G
  here = heap c l p free keeps M a name number op call begun b holds K (same_le K)

  abbrev effect_if_now : Bool → Option Entry
  effect_if_now exchanges = if c.anatomy.effects op && exchanges then Some (update_of name number call) else None

  abbrev pub Stepped : Event → Bool → Type 0
  Stepped e exchanges = Holds c l p free (record M {
    state = after M.state e;
    progress = progress_after M.progress M.state e (effect_if_now exchanges);
    workers = a ++ busy name number (op_taken c.anatomy p free op (answer M.state e)) call (Some (first_at K begun)) ∷ b;
  })

  abbrev exchange : ℕ → Event
  exchange old = Exchange m.word old (dressed p.counted m.to)

  knows : ExchangeKnows p (λ x. false) M.state m.at m
  knows = subst (Knows p (λ x. false) M.state (around (world.writings front) (run.writing_at mine.actor.at) (world.writings mine.behind))
      mine.actor.private) (at_it c l p free keeps M a name number op call begun b holds K (same_le K) (Exchanges m) is)
      (safe p (λ x. false) M.state front mine.actor mine.behind (sound_now c l p free keeps M a name number op call begun b holds K (same_le K))).knows

  reached : AllByRecursion (IsOpen l free here) (exchange_goes_for m.at m.word)
  reached = subst (λ y. AllByRecursion (IsOpen l free here) (goes_for y))
      (at_it c l p free keeps M a name number op call begun b holds K (same_le K) (Exchanges m) is) mine.mine.reached

  -- one try, from what it has read or from that without its tag bit
  tried : (t : Exchanging) → m.at ≡ t → (old : ℕ) → exchange_asks p t m ≡ Some (exchange old) → exchange_part t ≡ ToWin → m.hand.queue ≡ [] → IsNext m →
      IsPersistent M.state m.word (version_of m.from) → bare_of old ≡ bare_of m.from → version_of old ≡ version_of m.from →
      IsOpen l free here m.word → (lose : HeldExchange) → ((found : Bool) → (word_at M.state m.word == old) ≡ found →
      exchange_takes p t m (word_at M.state m.word) ≡ (if found then exchange_at m WritesBack else lose)) →
      (exchange_part lose.at ≡ ToWin) ⊎ ((found : ℕ) × (exchange_part lose.at ≡ HasLost found)) →
      (AllByRecursion (IsOpen l free here) (exchange_goes_for m.at m.word) → AllByRecursion (IsOpen l free here) (exchange_goes_for lose.at m.word)) →
      Stepped (exchange old) true
  tried t at old asks part empty next persistent bare same_version open_word lose takes either goes = by_test (word_at M.state m.word == old) refl
    where
      by_test : (f : Bool) → (word_at M.state m.word == old) ≡ f → Stepped (exchange old) true
      by_test true q =
          let found : word_at M.state m.word ≡ old = eqb-true (word_at M.state m.word) old q in
          let x : Wins c l p free keeps M a name number op call begun b holds K (same_le K) m is old = record {
            asks = ap (λ y. exchange_asks p y m) at ∙ asks;
            part = ap exchange_part at ∙ part;
            next = next;
            persistent = persistent;
            bare = bare;
            same_version = same_version;
            reached = open_word;
            found = found;
            takes = ap (λ y. exchange_takes p m.at m y) (sym found) ∙ ap (λ y. exchange_takes p y m (word_at M.state m.word)) at ∙ takes true q;
          } in
          wins_event c l p free keeps M a name number op call begun b holds K (same_le K) m is old x (effect_if_now true)
          (ap (λ t. if t then Some (update_of name number call) else None) (and_true (c.anatomy.effects op)))
      by_test false q = lost c l p free keeps M a name number op call begun b holds m is old lose (ap (λ y. exchange_asks p y m) at ∙ asks) q
          (ap (λ y. exchange_takes p y m (word_at M.state m.word)) at ∙ takes false q)
          (ap exchange_part at ∙ part) empty either goes (effect_if_now true)

  readily : m.at ≡ Ready → (queue : List Noted) → m.hand.queue ≡ queue → (slot : Option ℕ) → p.slot m.word ≡ slot → (e : Event) →
      Some (ready_asks p m queue slot) ≡ Some e → Stepped e (is_nil queue && is_none slot)
  readily at (n ∷ ns) queue slot has e q = subst (λ y. Stepped y false) (same_Some (persist_of n) e q)
      (fences c l p free keeps M a name number op call begun b holds (Exchanges m) is n.word n.kept
      (fenced c l p free keeps M a name number op call begun b holds m is n ns at queue))
  readily at [] queue (Some slot) has e q = subst (λ y. Stepped y false) (same_Some (Raise slot) e q)
      (raises c l p free keeps M a name number op call begun b holds m is slot at queue has)
  readily at [] queue None has e q = subst (λ y. Stepped y true) (same_Some (exchange m.from) e q)
      (tried Ready at m.from (ap (λ x. Some (ready_asks p m x (p.slot m.word))) queue ∙ ap (λ o. Some (ready_asks p m [] o)) has) refl queue ready_knows.1
      (persistent_now m.hand.queue queue ready_knows.2) refl refl
      (subst (λ x. AllByRecursion (IsOpen l free here) (exchange_goes_for x m.word)) at reached).0 (tries_again m (word_at M.state m.word)) takes
      (either (is_tagged m.from && (word_at M.state m.word == bare_of m.from)))
      (λ o. goes (is_tagged m.from && (word_at M.state m.word == bare_of m.from))
      (subst (λ x. AllByRecursion (IsOpen l free here) (exchange_goes_for x m.word)) at o)))
    where
      ready_knows : ExchangeKnows p (λ x. false) M.state Ready m
      ready_knows = subst (λ x. ExchangeKnows p (λ y. false) M.state x m) at knows

      persistent_now : (pairs : List Noted) → pairs ≡ [] → IsSafelyRead M.state pairs m.word (version_of m.from) →
          IsPersistent M.state m.word (version_of m.from)
      persistent_now [] e h = ⊎_elim (λ k. k) (λ k. absurd k) h
      persistent_now (x ∷ xs) e h = absurd (cc)

      takes : (f : Bool) → (word_at M.state m.word == m.from) ≡ f → exchange_takes p Ready m (word_at M.state m.word) ≡ (if f then exchange_at m WritesBack
          else tries_again m (word_at M.state m.word))
      takes f q = ap (λ x. ready_takes m (word_at M.state m.word) x (p.slot m.word)) queue ∙ ap (λ o. ready_takes m (word_at M.state m.word) [] o) has
          ∙ ap (λ t. if t then exchange_at m WritesBack else tries_again m (word_at M.state m.word)) q

      either : (f : Bool) → (exchange_part (if f then exchange_at m TriesBare else exchange_loses m (word_at M.state m.word)).at ≡ ToWin)
          ⊎ ((found : ℕ) × (exchange_part (if f then exchange_at m TriesBare else exchange_loses m (word_at M.state m.word)).at ≡ HasLost found))
      either true = inl refl
      either false = inr ((word_at M.state m.word), refl)

      goes : (f : Bool) → AllByRecursion (IsOpen l free here) (m.word ∷ []) →
          AllByRecursion (IsOpen l free here) (exchange_goes_for (if f then exchange_at m TriesBare else exchange_loses m (word_at M.state m.word)).at m.word)
      goes true o = o
      goes false o = tt

  withdrawn : m.at ≡ Withdraws → (slot : Option ℕ) → p.slot m.word ≡ slot → (e : Event) → Some (withdraw_asks p m slot) ≡ Some e → Stepped e false
  withdrawn at (Some slot) has e q = subst (λ y. Stepped y false) (same_Some (Lower slot) e q)
      (withdraws c l p free keeps M a name number op call begun b holds m is slot at has)
  withdrawn at None has e q = subst (λ y. Stepped y false) (same_Some clear e q)
      (subst (λ x. Holds c l p free (record M {
        state = after M.state clear;
        progress = x;
        workers =
            a ++ busy name number (op_taken c.anatomy p free op (answer M.state clear)) call (Some (first_at K begun)) ∷ b;
      })) (sym none_made)
      (clears c l p free keeps M a name number op call begun b holds m is at has))
    where
      clear : Event
      clear = Exchange m.word (dressed p.counted m.to) m.to

      by_test : (f : Bool) → (if f then takes_effect M.progress m.word None else M.progress) ≡ M.progress
      by_test true = refl
      by_test false = refl

      none_made : progress_after M.progress M.state clear (effect_if_now false) ≡ M.progress
      none_made = ap (λ f. progress_after M.progress M.state clear (if f then Some (update_of name number call) else None)) (and_false (c.anatomy.effects op))
          ∙ by_test (word_at M.state m.word == dressed p.counted m.to)

  pub step : (t : Exchanging) → m.at ≡ t → (e : Event) → exchange_asks p t m ≡ Some e → Stepped e (exchanges_now p t m)
  step Ready at e q = readily at m.hand.queue refl (p.slot m.word) refl e q
  step (Tries slot) at e q = subst (λ y. Stepped y true) (same_Some (exchange m.from) e q)
      (tried (Tries slot) at m.from refl refl known.1.fenced known.1.new known.1.persistent refl refl
      (subst (λ x. AllByRecursion (IsOpen l free here) (exchange_goes_for x m.word)) at reached).0
      (exchange_at m (Lowers slot (word_at M.state m.word))) takes (inr (word_at M.state m.word, refl))
      (λ o. subst (λ x. AllByRecursion (IsOpen l free here) (exchange_goes_for x m.word)) at o))
    where
      known : ExchangeKnows p (λ x. false) M.state (Tries slot) m
      known = subst (λ x. ExchangeKnows p (λ y. false) M.state x m) at knows

      takes : (f : Bool) → (word_at M.state m.word == m.from) ≡ f → exchange_takes p (Tries slot) m (word_at M.state m.word) ≡ (if f then
          exchange_at m WritesBack else exchange_at m (Lowers slot (word_at M.state m.word)))
      takes true q = ap (λ y. exchange_at m (if y then WritesBack else Lowers slot (word_at M.state m.word))) q
      takes false q = ap (λ y. exchange_at m (if y then WritesBack else Lowers slot (word_at M.state m.word))) q
  step TriesBare at e q = subst (λ y. Stepped y true) (same_Some (exchange (bare_of m.from)) e q)
      (tried TriesBare at (bare_of m.from) refl refl known.1.fenced known.1.new known.1.persistent bare_twice (version-bare m.from)
      (subst (λ x. AllByRecursion (IsOpen l free here) (exchange_goes_for x m.word)) at reached).0
      (exchange_loses m (word_at M.state m.word)) (λ f h. ap (λ y. if y then exchange_at m WritesBack else exchange_loses m (word_at M.state m.word)) h)
      (inr (word_at M.state m.word, refl)) (λ o. tt))
    where
      known : ExchangeKnows p (λ x. false) M.state TriesBare m
      known = subst (λ x. ExchangeKnows p (λ y. false) M.state x m) at knows

      bare_twice : bare_of (bare_of m.from) ≡ bare_of m.from
      bare_twice = Rattle.flit_place.proofs.WordTags.bare-bare m.from
  step WritesBack at e q = subst (λ y. Stepped y false) (same_Some (Persist m.word m.to) e q)
      (fences c l p free keeps M a name number op call begun b holds (Exchanges m) is m.word m.to
      (exchange_writes c l p free keeps M a name number op call begun b holds m is at))
  step Withdraws at e q = withdrawn at (p.slot m.word) refl e q
  step (Lowers slot found) at e q = subst (λ y. Stepped y false) (same_Some (Lower slot) e q)
      (lowers c l p free keeps M a name number op call begun b holds m is slot found at)
  step (Ended how) at e q = absurd (none_some e q)
