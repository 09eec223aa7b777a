-- The events of a call's PExchange that don't win: they leave the heap as it was, or write back.
use Rattle.std.proofs.Common.{◌≡◌, ◌⊎◌, inl, inr, ⊎_elim, ℕ, ◌+◌, ◌-◌, ◌<◌, ◌≤◌, ◌==◌, Bool, true, false, List, [], ◌∷◌, ◌++◌, length, Option, Some, None, refl, sym, ◌∙◌, ap, subst, arith, if◌then◌else◌}
use Rattle.std.proofs.lemmas.Bool.{eqb-true}
use Rattle.std.proofs.lemmas.List.{length-set}
use Rattle.std.proofs.Math.Seq.{map-set_same}
use Rattle.std.specs.List.{AllByRecursion}
use Rattle.flit_words.specs.declared.layouts.Layout.{Layout}
use Rattle.flit_words.specs.Layouts.{words_of}
use Rattle.flit_words.specs.Words.{bare_of}
use Rattle.flit_model.specs.States.{State, word_at, count_at}
use Rattle.flit_model.specs.Effects.{after, answer, with_word}
use Rattle.flit_model.specs.Settling.{progress_after, takes_effect}
use Rattle.flit_model.specs.declared.events.Event.{Event}
use Rattle.flit_model.specs.declared.events.Event.TheVariants.{Exchange, Raise, Lower}
use Rattle.flit_model.specs.declared.calls.Call.{Call}
use Rattle.flit_model.specs.declared.calls.Entry.{Entry}
use Rattle.flit_place.specs.Tags.{Place, dressed}
use Rattle.flit_place.proofs.WordTags.{bare-dressed}
use Rattle.flit_pv.specs.declared.queues.Noted.{Noted}
use Rattle.flit_pv.specs.Exchanges.{HeldExchange}
use Rattle.flit_pv.specs.declared.exchanges.Exchanging.TheVariants.{Ready, Tries, TriesBare, WritesBack, Withdraws, Lowers, Ended}
use Rattle.flit_pv.specs.declared.exchanges.Exchanging.{Exchanging}
use Rattle.flit_runs.specs.Worlds.{IsNotStoring}
use Rattle.flit_pv.specs.declared.exchanges.Exchanged.TheVariants.{Won as Exchange_won}
use Rattle.flit_pv.specs.Hands.{fenced_one}
use Rattle.flit_pv.specs.Exchanges.{exchange_asks, ready_asks, exchange_takes, ready_takes, exchange_at, exchange_loses, withdraw_asks}
use Rattle.flit_runs.specs.Workings as run
use Rattle.flit_runs.specs.Workings.{Working, Exchanges, goes_for, exchange_goes_for}
use Rattle.flit_runs.specs.Soundness.{MayWriteBack, exchange_owed, owed}
use Rattle.flit_structure.specs.declared.workers.Worker.{Worker}
use Rattle.flit_structure.specs.Moments.{Moment, with_workers, busy}
use Rattle.flit_structure.specs.Meanings.{first_at}
use Rattle.flit_crew.specs.Machines.{Works, deed_of, working_deed, exchange_deed, machine_takes, hand_of, reads_for, part_of, exchange_part, ToWin, HasLost}
use Rattle.flit_crew.specs.Heaps.{Heap, heap_of, IsOpen}
use Rattle.flit_crew.specs.Anatomies.{op_taken}
use Rattle.flit_crew.specs.Crews.{Crew, Who, Holds, IsFurther, Facts, ExchangesAt}
use Rattle.flit_crew.specs.Obligations.{Keeps, IsAfter}
use Rattle.flit_crew.proofs.Acting.{Split}
use Rattle.flit_crew.proofs.Going.{r, heap, me_now, Gone, knows_now}
use Rattle.flit_crew.proofs.Reading.{quietly, at_it, further, gone, same_deeds}
use Rattle.flit_crew.proofs.Standing.{fresh_to_win, fresh_lost}
use Rattle.flit_crew.proofs.FactsGoing.{never_worn}
use Rattle.flit_crew.proofs.Fencing.{Fences, pairs_now}
use Rattle.flit_crew.proofs.Stepping.{IsOn, fenced_on, exchange_on, ExchangeOn}

unqueued : (at : Exchanging) (m : HeldExchange) → exchange_part at ≡ ToWin → m.hand.queue ≡ [] → exchange_owed at m ≡ []
unqueued Ready m e q = q
unqueued (Tries slot) m e q = q
unqueued TriesBare m e q = q
unqueued WritesBack m e q = absurd (cc)
unqueued Withdraws m e q = q
unqueued (Lowers slot found) m e q = q
unqueued (Ended how) m e q = q

pub same_le : (n : ℕ) → n ≤ n
same_le n = omega arith

module _ {G Op : Type 0} (c : Crew G Op) (l : Layout) (p : Place) (free : List ℕ) (keeps : Keeps c l p free) (M : Moment Op) (a : List (Worker Op))
    (name number : ℕ) (op : Op) (call : Call) (begun : Option ℕ) (b : List (Worker Op))
    (holds : Holds c l p free (with_workers M (a ++ busy name number op call begun ∷ b))) (m : HeldExchange)
    (is : c.anatomy.machine op ≡ Works (Exchanges m)) where
  abbrev K : ℕ
  K = length M.progress.settled

  abbrev mine : Split c l p free (heap c l p free keeps M a name number op call begun b holds K (same_le K)) a (busy name number op call begun) b holds.actors
  mine = r c l p free keeps M a name number op call begun b holds K (same_le K)

  abbrev here : Heap G
  here = heap c l p free keeps M a name number op call begun b holds K (same_le K)

  abbrev me_as : run.Working → Who
  me_as w = me_now c l p free keeps M a name number op call begun b holds K (same_le K) mine.actor

  abbrev you_by : Event → Who
  you_by e = me_now c l p free keeps M a name number op call begun b holds K (same_le K)
      (gone c l p free keeps M a name number op call begun b holds K (same_le K) e [])

  abbrev pub Next : State → Op → Type 0
  Next s o = Gone c l p free keeps M a name number op call begun b holds K (same_le K) s o

  -- an event that leaves the heap, by which the exchange is `x` then
  pub record Quiet (e : Event) (x : HeldExchange) : Type 0 where
    pub asks : exchange_asks p m.at m ≡ Some e
    pub takes : exchange_takes p m.at m (answer M.state e) ≡ x
    pub words : length (after M.state e).words ≡ words_of l
    pub slots : length (after M.state e).slots ≡ l.slots
    pub same : let N : Moment Op = record M { state = after M.state e } in here ≡ heap_of N holds.given holds.ghost
    pub counter : (after M.state e).counter ≡ M.state.counter
    pub deed : exchange_deed x.at x ≡ exchange_deed m.at m
    pub goes : AllByRecursion (IsOpen l free here) (exchange_goes_for m.at m.word) → AllByRecursion (IsOpen l free here) (exchange_goes_for x.at m.word)
    pub knows : IsAfter c l p free op (Works (Exchanges x)) → (me you : Who) → IsFurther me you → me.private ≡ mine.actor.private → c.knows here me op →
        c.knows here you (c.anatomy.with_machine op (Works (Exchanges x)))

  pub quiet : (e : Event) (x : HeldExchange) → Quiet e x → Next (after M.state e) (op_taken c.anatomy p free op (answer M.state e))
  quiet e x q =
      let on : ExchangeOn m (exchange_takes p m.at m (answer M.state e)) = exchange_on p m m.at (answer M.state e) in
      quietly c l p free keeps M a name number op call begun b holds K (same_le K) (Exchanges m) is e [] q.asks tt q.words q.slots q.same on.hand
      (subst (λ w. AllByRecursion (IsOpen l free here) (exchange_goes_for (exchange_takes p m.at m (answer M.state e)).at w)) (sym on.word)
      (subst (λ y. AllByRecursion (IsOpen l free here) (exchange_goes_for y.at m.word)) (sym q.takes)
      (q.goes (subst (λ y. AllByRecursion (IsOpen l free here) (goes_for y))
      (at_it c l p free keeps M a name number op call begun b holds K (same_le K) (Exchanges m) is) mine.mine.reached))))
      tt q.counter (same_deeds c l p free keeps M a name number op call begun b holds K (same_le K) (Works (run.takes p (Exchanges m) (answer M.state e)))
      (answer M.state e, ap (λ y. machine_takes p free y (answer M.state e)) (sym is))
      (ap (λ y. exchange_deed y.at y) q.takes ∙ q.deed ∙ sym (ap deed_of is)))
      (never_worn c l p free m m.at refl (answer M.state e) e q.asks)
      (subst (λ y. c.knows here (you_by e) (c.anatomy.with_machine op (Works (Exchanges y)))) (sym q.takes)
      (q.knows (answer M.state e, ap (λ y. Works (Exchanges y)) (sym q.takes) ∙ ap (λ y. machine_takes p free y (answer M.state e)) (sym is))
      (me_as (Exchanges m)) (you_by e) (further c l p free keeps M a name number op call begun b holds K (same_le K) e []) refl
      (knows_now c l p free keeps M a name number op call begun b holds K (same_le K))))

  -- where how far it is, as the structure looks at it, is the same
  steadily : (x : HeldExchange) → exchange_part x.at ≡ exchange_part m.at → IsAfter c l p free op (Works (Exchanges x)) → (me you : Who) → IsFurther me you →
      me.private ≡ mine.actor.private → c.knows here me op → c.knows here you (c.anatomy.with_machine op (Works (Exchanges x)))
  steadily x part after_it me you on same known = keeps.steady here me you op (Works (Exchanges x)) after_it holds.kept on (part ∙ sym (ap part_of is)) known

  -- a Raise, a Lower
  pub raises : (slot : ℕ) → m.at ≡ Ready → m.hand.queue ≡ [] → p.slot m.word ≡ Some slot →
      Next (after M.state (Raise slot)) (op_taken c.anatomy p free op (answer M.state (Raise slot)))
  raises slot at queue has = quiet (Raise slot) (exchange_at m (Tries slot)) (record {
    asks = ap (λ x. exchange_asks p x m) at ∙ ap (λ q. Some (ready_asks p m q (p.slot m.word))) queue ∙ ap (λ o. Some (ready_asks p m [] o)) has;
    takes = ap (λ x. exchange_takes p x m (count_at M.state slot)) at ∙ ap (λ q. ready_takes m (count_at M.state slot) q (p.slot m.word)) queue
        ∙ ap (λ o. ready_takes m (count_at M.state slot) [] o) has;
    words = holds.words;
    slots = length-set M.state.slots slot (count_at M.state slot + 1) ∙ holds.slots;
    same = refl;
    counter = refl;
    deed = sym (ap (λ x. exchange_deed x m) at);
    goes = λ o. subst (λ x. AllByRecursion (IsOpen l free here) (exchange_goes_for x m.word)) at o;
    knows = steadily (exchange_at m (Tries slot)) (sym (ap exchange_part at));
  })

  pub lowers : (slot found : ℕ) → m.at ≡ Lowers slot found → Next (after M.state (Lower slot)) (op_taken c.anatomy p free op (answer M.state (Lower slot)))
  lowers slot found at = quiet (Lower slot) (exchange_loses m found) (record {
    asks = ap (λ x. exchange_asks p x m) at;
    takes = ap (λ x. exchange_takes p x m (count_at M.state slot)) at;
    words = holds.words;
    slots = length-set M.state.slots slot (count_at M.state slot - 1) ∙ holds.slots;
    same = refl;
    counter = refl;
    deed = sym (ap (λ x. exchange_deed x m) at);
    goes = λ o. tt;
    knows = steadily (exchange_loses m found) (sym (ap exchange_part at));
  })

  pub withdraws : (slot : ℕ) → m.at ≡ Withdraws → p.slot m.word ≡ Some slot →
      Next (after M.state (Lower slot)) (op_taken c.anatomy p free op (answer M.state (Lower slot)))
  withdraws slot at has = quiet (Lower slot) (exchange_at m (Ended Exchange_won)) (record {
    asks = ap (λ x. exchange_asks p x m) at ∙ ap (λ o. Some (withdraw_asks p m o)) has;
    takes = ap (λ x. exchange_takes p x m (count_at M.state slot)) at;
    words = holds.words;
    slots = length-set M.state.slots slot (count_at M.state slot - 1) ∙ holds.slots;
    same = refl;
    counter = refl;
    deed = sym (ap (λ x. exchange_deed x m) at);
    goes = λ o. tt;
    knows = steadily (exchange_at m (Ended Exchange_won)) (sym (ap exchange_part at));
  })

  -- the Exchange that clears the tag: won or not, the words without their tags stay
  pub clears : m.at ≡ Withdraws → p.slot m.word ≡ None →
      let e = Exchange m.word (dressed p.counted m.to) m.to in
      Next (after M.state e) (op_taken c.anatomy p free op (answer M.state e))
  clears at none = quiet e (exchange_at m (Ended Exchange_won)) (record {
    asks = ap (λ x. exchange_asks p x m) at ∙ ap (λ o. Some (withdraw_asks p m o)) none;
    takes = ap (λ x. exchange_takes p x m (word_at M.state m.word)) at;
    words = sized (word_at M.state m.word == dressed p.counted m.to);
    slots = slotted (word_at M.state m.word == dressed p.counted m.to);
    same = by_test (word_at M.state m.word == dressed p.counted m.to) refl;
    counter = counted (word_at M.state m.word == dressed p.counted m.to);
    deed = sym (ap (λ x. exchange_deed x m) at);
    goes = λ o. tt;
    knows = steadily (exchange_at m (Ended Exchange_won)) (sym (ap exchange_part at));
  })
    where
      e : Event
      e = Exchange m.word (dressed p.counted m.to) m.to

      sized : (t : Bool) → length (if t then with_word M.state m.word m.to else M.state).words ≡ words_of l
      sized true = length-set M.state.words m.word m.to ∙ holds.words
      sized false = holds.words

      counted : (t : Bool) → (if t then with_word M.state m.word m.to else M.state).counter ≡ M.state.counter
      counted true = refl
      counted false = refl

      slotted : (t : Bool) → length (if t then with_word M.state m.word m.to else M.state).slots ≡ l.slots
      slotted true = holds.slots
      slotted false = holds.slots

      by_test : (t : Bool) → (word_at M.state m.word == dressed p.counted m.to) ≡ t →
          (let N : Moment Op = record M { state = if t then with_word M.state m.word m.to else M.state } in here ≡ heap_of N holds.given holds.ghost)
      by_test true q = ap (λ ws. record here { words = ws }) (sym (map-set_same bare_of M.state.words m.word m.to 0 (sym (bare-dressed p.counted m.to)
          ∙ ap bare_of (sym (eqb-true (word_at M.state m.word) (dressed p.counted m.to) q)))))
      by_test false q = refl

  -- an Exchange that is lost, from what it has read or from that without its tag bit
  pub lost : (old : ℕ) (x : HeldExchange) → exchange_asks p m.at m ≡ Some (Exchange m.word old (dressed p.counted m.to)) →
      (word_at M.state m.word == old) ≡ false → exchange_takes p m.at m (word_at M.state m.word) ≡ x →
      exchange_part m.at ≡ ToWin → m.hand.queue ≡ [] → (exchange_part x.at ≡ ToWin) ⊎ ((found : ℕ) × (exchange_part x.at ≡ HasLost found)) →
      (AllByRecursion (IsOpen l free here) (exchange_goes_for m.at m.word) → AllByRecursion (IsOpen l free here) (exchange_goes_for x.at m.word)) →
      (effect : Option Entry) →
      let e = Exchange m.word old (dressed p.counted m.to) in
      Holds c l p free (record M {
        state = after M.state e;
        progress = progress_after M.progress M.state e effect;
        workers =
            a ++ busy name number (op_taken c.anatomy p free op (answer M.state e)) call (Some (first_at K begun)) ∷ b;
      })
  lost old x asks other takes part empty either goes effect =
      subst (λ q. Holds c l p free (record M {
        state = after M.state e;
        progress = q;
        workers =
            a ++ busy name number (op_taken c.anatomy p free op (answer M.state e)) call (Some (first_at K begun)) ∷ b;
      })) (sym progress_is)
      (quiet e x (record {
        asks = asks;
        takes = takes;
        words = ap (λ s. length s.words) state_is ∙ holds.words;
        slots = ap (λ s. length s.slots) state_is ∙ holds.slots;
        same = ap (λ s. let N : Moment Op = record M { state = s } in heap_of N holds.given holds.ghost) (sym state_is);
        counter = ap (λ s. s.counter) state_is;
        deed = ⊎_elim (λ again. fresh_to_win x.at x again) (λ f. fresh_lost x.at x f.0 f.1) either ∙ sym (fresh_to_win m.at m part);
        goes = goes;
        knows = by_part either;
      }))
    where
      e : Event
      e = Exchange m.word old (dressed p.counted m.to)

      state_is : after M.state e ≡ M.state
      state_is = ap (λ t. if t then with_word M.state m.word (dressed p.counted m.to) else M.state) other

      progress_is : progress_after M.progress M.state e effect ≡ M.progress
      progress_is = ap (λ t. if t then takes_effect M.progress m.word effect else M.progress) other

      -- nothing is queued, so nothing is private
      none_private : mine.actor.private ≡ []
      none_private = mine.mine.published (ap owed at_exchange ∙ unqueued m.at m part empty) (subst IsNotStoring (sym at_exchange) tt)
        where
          at_exchange : mine.actor.at ≡ Exchanges m
          at_exchange = at_it c l p free keeps M a name number op call begun b holds K (same_le K) (Exchanges m) is

      by_part : (exchange_part x.at ≡ ToWin) ⊎ ((found : ℕ) × (exchange_part x.at ≡ HasLost found)) → IsAfter c l p free op (Works (Exchanges x)) →
          (me you : Who) → IsFurther me you → me.private ≡ mine.actor.private → c.knows here me op →
          c.knows here you (c.anatomy.with_machine op (Works (Exchanges x)))
      by_part (inl again) after_it me you on same known = steadily x (again ∙ sym part) after_it me you on same known
      by_part (inr f) after_it me you on same known = keeps.loses here me you op m x f.0 after_it holds.kept on is part f.1 (same ∙ none_private) known

  -- the fence before it
  pub fenced : (n : Noted) (ns : List Noted) → m.at ≡ Ready → m.hand.queue ≡ n ∷ ns →
      Fences c l p free keeps M a name number op call begun b holds (Exchanges m) n.word n.kept
  fenced n ns at queue =
      let pair : MayWriteBack (λ x. false) M.state n =
      (subst (AllByRecursion (MayWriteBack (λ x. false) M.state)) queue (subst
      (λ x. AllByRecursion (MayWriteBack (λ y. false) M.state) (exchange_owed x m)) at (pairs_now c l p free keeps M a name number op call begun b holds
      (Exchanges m) is))).0 in
      let x : HeldExchange = record m { hand = fenced_one m.hand (n ∷ ns) } in
      let taken : (told : ℕ) → run.takes p (Exchanges m) told ≡ Exchanges x =
      λ told. ap (λ y. Exchanges (exchange_takes p y m told)) at ∙ ap (λ q. Exchanges (ready_takes m told q (p.slot m.word))) queue in
      record {
        asks = ap (λ y. exchange_asks p y m) at ∙ ap (λ q. Some (ready_asks p m q (p.slot m.word))) queue;
        had = pair.had;
        below = subst (λ y. n.word < y) holds.words pair.plain.0;
        deaf = λ told. taken told ∙ sym (taken 0);
        hand = subst (λ y. IsOn m.hand (hand_of y)) (sym (taken 0)) (fenced_on m.hand (n ∷ ns));
        goes = λ h o. subst (λ y. AllByRecursion (IsOpen l free h) (goes_for y)) (sym (taken 0)) o;
        reading = ap reads_for (taken 0);
        deeds = inl (ap working_deed (taken 0) ∙ ap (λ y. exchange_deed y x) at ∙ sym (ap (λ y. exchange_deed y m) at));
        facts = λ h me you on z. subst (λ y. Facts c l p free h you (c.anatomy.with_machine op (Works y)) (Works y)) (sym (taken 0))
            (subst (λ y. ExchangesAt c l p free y) (sym at) tt);
        knows = λ h me you kept on le known. subst (λ y. c.knows h you (c.anatomy.with_machine op (Works y))) (sym (taken 0))
            (keeps.steady h me you op (Works (Exchanges x)) (0, ap Works (sym (taken 0)) ∙ ap (λ y. machine_takes p free y 0) (sym is)) kept on
            (sym (ap part_of is)) known);
      }
