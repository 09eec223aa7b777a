-- A write-back by a call's machine: first the moment changes, with the call where it was; then the machine goes on by
-- the same event, which changes nothing a second time.
use Rattle.std.proofs.Common.{◌≡◌, ◌⊎◌, inl, inr, ⊎_elim, ℕ, suc, ◌+◌, ◌<◌, ◌≤◌, max, Bool, true, false, List, [], ◌∷◌, ◌++◌, length, Option, Some, None, refl, sym, ◌∙◌, ap, subst, arith}
use Rattle.std.proofs.lemmas.List.{length-append}
use Rattle.flit_place.proofs.CoverSteps.{index-set}
use Rattle.std.specs.List.{AllByRecursion}
use Rattle.flit_words.specs.declared.layouts.Layout.{Layout}
use Rattle.flit_words.specs.Layouts.{words_of}
use Rattle.flit_words.specs.Words.{version_of}
use Rattle.flit_place.proofs.WordTags.{version-max_left}
use Rattle.flit_model.specs.declared.calls.Entry.{Entry}
use Rattle.flit_model.specs.States.{State, shadow_at}
use Rattle.flit_model.specs.Effects.{after, answer}
use Rattle.flit_model.specs.Settling.{Progress, progress_after}
use Rattle.flit_model.specs.declared.events.Event.{Event}
use Rattle.flit_model.specs.declared.events.Event.TheVariants.{Persist}
use Rattle.flit_model.specs.declared.calls.Call.{Call}
use Rattle.flit_place.specs.Tags.{Place}
use Rattle.flit_pv.specs.declared.queues.Noted.{Noted}
use Rattle.flit_pv.specs.Fences.{HeldComplete}
use Rattle.flit_pv.specs.Exchanges.{HeldExchange}
use Rattle.flit_pv.specs.declared.exchanges.Exchanging.TheVariants.{WritesBack, Withdraws}
use Rattle.flit_pv.specs.Hands.{with_persist}
use Rattle.flit_pv.specs.Queues.{first_persist, persist_of}
use Rattle.flit_pv.specs.Fences.{complete_taken}
use Rattle.flit_pv.specs.Exchanges.{exchange_asks, exchange_takes}
use Rattle.flit_runs.specs.Workings as run
use Rattle.flit_runs.specs.Workings.{Working, Exchanges, Completes, goes_for, writing_at}
use Rattle.flit_runs.specs.Worlds.{Actor, HasHad}
use Rattle.flit_runs.specs.Soundness.{IsSafe, MayWriteBack, owed}
use Rattle.flit_runs.proofs.Turns.{safe}
use Rattle.flit_structure.specs.declared.workers.Worker.{Worker}
use Rattle.flit_structure.specs.Moments.{Moment, with_workers, busy, update_of}
use Rattle.flit_structure.specs.Lawful.{StandsFrom}
use Rattle.flit_structure.proofs.Ahead.{settled_below}
use Rattle.flit_structure.specs.Meanings.{first_at}
use Rattle.flit_structure.proofs.WriteBacks.{old_state}
use Rattle.flit_structure.proofs.Growing.{settles_one, gains_one}
use Rattle.flit_crew.specs.Machines.{Machine, Works, Making, Made, MakesAt, deed_of, working_deed, exchange_deed, has_linked, hand_of, reads_for, part_of, machine_takes}
use Rattle.flit_crew.specs.Heaps.{Heap, heap_of, IsOpen, at_word, at_shadow, waits_at}
use Rattle.flit_crew.specs.Anatomies.{deed, deed_by, op_taken, gone_on}
use Rattle.flit_crew.specs.Accounts.{HasUpdate}
use Rattle.flit_crew.specs.Crews.{Crew, Who, Holds, IsFurther, Facts, stranger_of}
use Rattle.flit_crew.specs.Obligations.{Keeps, IsAfter}
use Rattle.flit_crew.proofs.Acting.{Split}
use Rattle.flit_crew.proofs.WritingBack.{persisted}
use Rattle.flit_crew.proofs.FactsGoing.{reply_goes}
use Rattle.flit_crew.proofs.Going.{r, heap, me_now, sound_now, knows_now, facts_now, update_now}
use Rattle.flit_crew.proofs.Reading.{quietly, at_it, further, gone, Deeds, same_deeds}
use Rattle.flit_crew.proofs.Standing.{deed_with}
use Rattle.flit_crew.proofs.Stepping.{IsOn, fenced_on}

version_le : (a b : ℕ) → a ≤ b → version_of a ≤ version_of b
version_le a b le = subst (λ n. version_of a ≤ version_of n) (most a b le) (version-max_left a b)
  where
    most : (x y : ℕ) → x ≤ y → max x y ≡ y
    most x y i = omega (arith, i)

pub shadow_has : (m : State) (word kept : ℕ) → word < length m.shadows → kept ≤ shadow_at (after m (Persist word kept)) word
shadow_has m word kept lt = ⊎_elim (λ k. subst (λ n. kept ≤ n) (sym k.1) (most (shadow_at m word) kept)) (λ k. absurd (k.0 refl))
    (index-set m.shadows word (max (shadow_at m word) kept) word lt)
  where
    most : (a b : ℕ) → b ≤ max a b
    most a b = omega arith

more_settled : (q : Progress) (m : State) (e : Event) → length q.settled ≤ length (progress_after q m e None).settled
more_settled q m e =
    let g = gains_one q (progress_after q m e None) e (settles_one q m e None) in
    longer (length q.settled) (length g.0) (length (progress_after q m e None).settled) (ap length g.1 ∙ length-append q.settled g.0)
  where
    longer : (a b n : ℕ) → n ≡ a + b → a ≤ n
    longer a b n e = omega (arith, e)

module _ {G Op : Type 0} (c : Crew G Op) (l : Layout) (p : Place) (free : List ℕ) (keeps : Keeps c l p free) (M : Moment Op) (a : List (Worker Op))
    (name number : ℕ) (op : Op) (call : Call) (begun : Option ℕ) (b : List (Worker Op))
    (holds : Holds c l p free (with_workers M (a ++ busy name number op call begun ∷ b))) where
  -- what is to be shown of a machine that writes back
  pub record Fences (w : Working) (word kept : ℕ) : Type 0 where
    pub asks : run.asks p w ≡ Some (Persist word kept)
    pub had : HasHad (λ x. false) M.state word kept
    pub below : word < words_of l
    -- no matter what the shadow was
    pub deaf : (told : ℕ) → run.takes p w told ≡ run.takes p w 0
    pub hand : IsOn (hand_of w) (hand_of (run.takes p w 0))
    pub goes : (h : Heap G) → AllByRecursion (IsOpen l free h) (goes_for w) → AllByRecursion (IsOpen l free h) (goes_for (run.takes p w 0))
    pub reading : reads_for (run.takes p w 0) ≡ []
    -- its update stays where it is, or it was in this very word
    pub deeds : (working_deed (run.takes p w 0) ≡ working_deed w) ⊎ ((working_deed w ≡ Making word kept) × (working_deed (run.takes p w 0) ≡ Made))
    pub facts : (h : Heap G) (me you : Who) → IsFurther me you → Facts c l p free h me op (Works w) →
        Facts c l p free h you (c.anatomy.with_machine op (Works (run.takes p w 0))) (Works (run.takes p w 0))
    pub knows : (h : Heap G) (me you : Who) → c.kept h → IsFurther me you → kept ≤ at_shadow h word → c.knows h me op →
        c.knows h you (c.anatomy.with_machine op (Works (run.takes p w 0)))

  pub fences : (w : Working) → c.anatomy.machine op ≡ Works w → (word kept : ℕ) → Fences w word kept →
      let e = Persist word kept in
      Holds c l p free (record M {
        state = after M.state e;
        progress = progress_after M.progress M.state e None;
        workers =
            a ++ busy name number (op_taken c.anatomy p free op (answer M.state e)) call (Some (first_at (length M.progress.settled) begun)) ∷ b;
      })
  fences w is word kept f =
      subst (λ o. Holds c l p free (record N { workers = a ++ busy name number o call (Some (first_at (length M.progress.settled) begun)) ∷ b })) op_same
      (subst (λ s. Holds c l p free (record N {
        state = s;
        workers = a ++ busy name number (op_taken c.anatomy p free op (answer N.state e)) call
            (Some (first_at (length M.progress.settled) begun)) ∷ b;
      })) again
      (quietly c l p free keeps N a name number op call begun b holds_now k settled w is e [] f.asks
      tt (ap (λ s. length s.words) again ∙ holds_now.words) (ap (λ s. length s.slots) again ∙ holds_now.slots)
      (ap (λ s. let O : Moment Op = record N { state = s } in heap_of O holds_now.given holds_now.ghost) (sym again))
      (subst (λ x. IsOn (hand_of w) (hand_of x)) (sym taken) f.hand)
      (subst (λ x. AllByRecursion (IsOpen l free here) (goes_for x)) (sym taken)
      (f.goes here (subst (λ x. AllByRecursion (IsOpen l free here) (goes_for x))
      (at_it c l p free keeps N a name number op call begun b holds_now k settled w is) mine.mine.reached)))
      (subst (λ x. AllByRecursion (IsOpen l free here) (reads_for x)) (sym taken) (subst (AllByRecursion (IsOpen l free here)) (sym f.reading) tt))
      (ap (λ s. s.counter) again) deeds_now
      (subst (λ x. Facts c l p free here (me_now c l p free keeps N a name number op call begun b holds_now k settled
      (gone c l p free keeps N a name number op call begun b holds_now k settled e [])) (c.anatomy.with_machine op (Works x)) (Works x)) (sym taken)
      (f.facts here (me_now c l p free keeps N a name number op call begun b holds_now k settled mine.actor)
      (me_now c l p free keeps N a name number op call begun b holds_now k settled
      (gone c l p free keeps N a name number op call begun b holds_now k settled e []))
      (further c l p free keeps N a name number op call begun b holds_now k settled e [])
      (subst (Facts c l p free here (me_now c l p free keeps N a name number op call begun b holds_now k settled mine.actor) op) is
      (facts_now c l p free keeps N a name number op call begun b holds_now k settled))))
      (subst (λ x. c.knows here (me_now c l p free keeps N a name number op call begun b holds_now k settled
      (gone c l p free keeps N a name number op call begun b holds_now k settled e [])) (c.anatomy.with_machine op (Works x))) (sym taken)
      (f.knows here (me_now c l p free keeps N a name number op call begun b holds_now k settled mine.actor)
      (me_now c l p free keeps N a name number op call begun b holds_now k settled
      (gone c l p free keeps N a name number op call begun b holds_now k settled e []))
      holds_now.kept (further c l p free keeps N a name number op call begun b holds_now k settled e []) old
      (knows_now c l p free keeps N a name number op call begun b holds_now k settled)))))
    where
      e : Event
      e = Persist word kept

      k : ℕ
      k = length M.progress.settled

      N : Moment Op
      N = record M { state = after M.state (Persist word kept); progress = progress_after M.progress M.state (Persist word kept) None }

      settled : k ≤ length N.progress.settled
      settled = more_settled M.progress M.state (Persist word kept)

      holds_now : Holds c l p free (with_workers N (a ++ busy name number op call begun ∷ b))
      holds_now = persisted c l p free keeps (with_workers M (a ++ busy name number op call begun ∷ b)) word kept f.below f.had holds

      mine : Split c l p free (heap c l p free keeps N a name number op call begun b holds_now k settled) a (busy name number op call begun) b holds_now.actors
      mine = r c l p free keeps N a name number op call begun b holds_now k settled

      here : Heap G
      here = heap c l p free keeps N a name number op call begun b holds_now k settled

      old : kept ≤ shadow_at N.state word
      old = shadow_has M.state word kept (subst (λ n. word < n) (sym (holds.sound.suits.whole ∙ holds.words)) f.below)

      again : after N.state (Persist word kept) ≡ N.state
      again = old_state N.state word kept old

      taken : run.takes p w (answer N.state (Persist word kept)) ≡ run.takes p w 0
      taken = f.deaf (answer N.state (Persist word kept))

      m : Machine
      m = Works (run.takes p w (answer N.state e))

      after_it : IsAfter c l p free op m
      after_it = (answer N.state e, ap (λ x. machine_takes p free x (answer N.state e)) (sym is))

      -- nothing waits at a word that is written back as it is
      none_waits : (d : Entry) → waits_at here word ≡ Some d → at_word here word ≡ kept → ⊥
      none_waits d waits same = behind (version_of kept) (version_of (shadow_at N.state word)) (version_le kept (shadow_at N.state word) old)
          (ap version_of (sym same) ∙ (holds_now.history.waits word d waits).1)
        where
          behind : (x y : ℕ) → x ≤ y → x ≡ y + 1 → ⊥
          behind x y le e = omega (arith, le, e)

      -- an update that is settled doesn't wait
      not_twice : (x n : ℕ) → StandsFrom n here.progress.settled (update_of name number call) → waits_at here x ≡ Some (update_of name number call) → ⊥
      not_twice x n s waits = above number (settled_below here.progress s.0 s.1 (update_of name number call) x (update_of name number call) s.2 waits refl
          (holds_now.history.rises name))
        where
          above : (y : ℕ) → suc y ≤ y → ⊥
          above y le = omega (arith, le)

      Goal : Type 0
      Goal = Deeds c l p free keeps N a name number op call begun b holds_now k settled m

      written : working_deed w ≡ Making word kept → working_deed (run.takes p w (answer N.state e)) ≡ Made → Goal
      written was now = record {
        linked = ap has_linked now ∙ sym (ap has_linked (ap deed_of is ∙ was));
        update = subst (HasUpdate here name number call (first_at k begun)) (sym (deed_with c l p free keeps op m after_it
            ∙ ap (deed_by c.anatomy (c.anatomy.effects op) (c.anatomy.past op)) now))
            (by_kind (c.anatomy.effects op) (c.anatomy.past op) (subst (HasUpdate here name number call (first_at k begun))
            (ap (deed_by c.anatomy (c.anatomy.effects op) (c.anatomy.past op)) (ap deed_of is ∙ was)) update));
        makes = λ x d waits own makes. subst (λ y. MakesAt y x) (sym (deed_with c l p free keeps op m after_it
            ∙ ap (deed_by c.anatomy (c.anatomy.effects op) (c.anatomy.past op)) now))
            (by_make (c.anatomy.effects op) (c.anatomy.past op) x (waits ∙ ap Some own)
            (subst (HasUpdate here name number call (first_at k begun)) (ap (deed_by c.anatomy (c.anatomy.effects op) (c.anatomy.past op))
            (ap deed_of is ∙ was)) update)
            (subst (λ y. MakesAt y x) (ap (deed_by c.anatomy (c.anatomy.effects op) (c.anatomy.past op)) (ap deed_of is ∙ was)) makes));
      }
        where
          update : HasUpdate here name number call (first_at k begun) (deed c.anatomy op)
          update = update_now c l p free keeps N a name number op call begun b holds_now k settled

          by_kind : (t past : Bool) → HasUpdate here name number call (first_at k begun) (deed_by c.anatomy t past (Making word kept)) →
              HasUpdate here name number call (first_at k begun) (deed_by c.anatomy t past Made)
          by_kind true past (inl x) = absurd (none_waits (update_of name number call) x.0 x.1)
          by_kind true past (inr x) = x
          by_kind false true x = x
          by_kind false false x = x

          by_make : (t past : Bool) (x : ℕ) → waits_at here x ≡ Some (update_of name number call) →
              HasUpdate here name number call (first_at k begun) (deed_by c.anatomy t past (Making word kept)) →
              MakesAt (deed_by c.anatomy t past (Making word kept)) x → MakesAt (deed_by c.anatomy t past Made) x
          by_make true past x waits (inl y) same = absurd (none_waits (update_of name number call) y.0 y.1)
          by_make true past x waits (inr y) same = absurd (not_twice x (first_at k begun) y waits)
          by_make false true x waits y z = absurd z
          by_make false false x waits y z = absurd z

      deeds_now : Goal
      deeds_now = ⊎_elim
          (λ same. same_deeds c l p free keeps N a name number op call begun b holds_now k settled m after_it (ap working_deed taken ∙ same
          ∙ sym (ap deed_of is)))
          (λ x. written x.0 (ap working_deed taken ∙ x.1)) f.deeds

      op_same : op_taken c.anatomy p free op (answer N.state (Persist word kept)) ≡ op_taken c.anatomy p free op (answer M.state (Persist word kept))
      op_same = ap (λ m. gone_on c.anatomy p op (machine_takes p free m (answer N.state (Persist word kept)))) is
          ∙ ap (λ x. gone_on c.anatomy p op (Works x)) (taken ∙ sym (f.deaf (answer M.state (Persist word kept))))
          ∙ ap (λ m. gone_on c.anatomy p op (machine_takes p free m (answer M.state (Persist word kept)))) (sym is)

  -- ---- a Complete

  least : (n : ℕ) → 0 ≤ n
  least n = omega arith

  abbrev mine_now : Split c l p free (heap c l p free keeps M a name number op call begun b holds 0 (least (length M.progress.settled))) a
      (busy name number op call begun) b holds.actors
  mine_now = r c l p free keeps M a name number op call begun b holds 0 (least (length M.progress.settled))

  -- those before it in the world
  abbrev front : List Actor
  front = stranger_of holds.stranger ∷ mine_now.before

  pub pairs_now : (w : Working) → c.anatomy.machine op ≡ Works w → AllByRecursion (MayWriteBack (λ x. false) M.state) (owed w)
  pairs_now w is = subst (λ x. AllByRecursion (MayWriteBack (λ y. false) M.state) (owed x))
      (at_it c l p free keeps M a name number op call begun b holds 0 (least (length M.progress.settled)) w is)
      (safe p (λ x. false) M.state front mine_now.actor mine_now.behind
      (sound_now c l p free keeps M a name number op call begun b holds 0 (least (length M.progress.settled)))).pairs

  pub completes : (m : HeldComplete) → c.anatomy.machine op ≡ Works (Completes m) → (n : Noted) (ns : List Noted) → m.fence.hand.queue ≡ n ∷ ns →
      Fences (Completes m) n.word n.kept
  completes m is n ns queue =
      let pair : MayWriteBack (λ x. false) M.state n = (subst (AllByRecursion (MayWriteBack (λ x. false) M.state)) queue (pairs_now (Completes m) is)).0 in
      record {
        asks = ap first_persist queue;
        had = pair.had;
        below = subst (λ x. n.word < x) holds.words pair.plain.0;
        deaf = λ told. refl;
        hand = fenced_on m.fence.hand m.fence.hand.queue;
        goes = λ h o. tt;
        reading = refl;
        deeds = inl refl;
        facts = λ h me you on x. reply_goes c l p free keeps op m is h me you on x;
        knows = λ h me you kept on le known. keeps.steady h me you op (Works (Completes (complete_taken m 0))) (0, ap (λ x. machine_takes p free x 0) (sym is))
            kept on (sym (ap part_of is)) known;
      }

  -- ---- the write-back of what an exchange has written

  pub exchange_writes : (m : HeldExchange) → c.anatomy.machine op ≡ Works (Exchanges m) → m.at ≡ WritesBack → Fences (Exchanges m) m.word m.to
  exchange_writes m is at =
      let pair : MayWriteBack (λ x. false) M.state (Rattle.flit_pv.specs.Queues.noted m.word m.to) =
      (subst (λ x. AllByRecursion (MayWriteBack (λ y. false) M.state) (Rattle.flit_runs.specs.Soundness.exchange_owed x m)) at (pairs_now (Exchanges m)
      is)).0 in
      let after_it : HeldExchange = record m { at = Withdraws; hand = with_persist m.hand } in
      let taken : (told : ℕ) → run.takes p (Exchanges m) told ≡ Exchanges after_it = λ told. ap (λ x. Exchanges (exchange_takes p x m told)) at in
      record {
        asks = ap (λ x. exchange_asks p x m) at;
        had = pair.had;
        below = subst (λ x. m.word < x) holds.words pair.plain.0;
        deaf = λ told. taken told ∙ sym (taken 0);
        hand = subst (λ x. IsOn m.hand (hand_of x)) (sym (taken 0)) (record { name = refl; number = refl; spare = refl; ticket = refl });
        goes = λ h o. subst (λ x. AllByRecursion (IsOpen l free h) (goes_for x)) (sym (taken 0))
            (subst (λ x. AllByRecursion (IsOpen l free h) (run.exchange_goes_for x m.word)) at o);
        reading = ap reads_for (taken 0);
        deeds = inr (ap (λ x. exchange_deed x m) at, ap working_deed (taken 0));
        facts = λ h me you on x. subst (λ y. Facts c l p free h you (c.anatomy.with_machine op (Works y)) (Works y)) (sym (taken 0)) tt;
        knows = λ h me you kept on le known. subst (λ x. c.knows h you (c.anatomy.with_machine op (Works x))) (sym (taken 0))
            (keeps.writes h me you op m kept on is at le known);
      }
