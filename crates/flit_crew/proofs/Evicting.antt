-- An Evict begins, makes its events, and is over.
use Rattle.std.proofs.Common.{◌≡◌, ℕ, ◌<◌, ◌≤◌, false, List, [], ◌∷◌, ◌++◌, Some, None, refl, sym, ◌∙◌, ap, subst, arith}
use Rattle.std.proofs.lemmas.Option.{same_Some}
use Rattle.std.specs.List.{AllByRecursion}
use Rattle.flit_words.specs.declared.layouts.Layout.{Layout}
use Rattle.flit_words.specs.Layouts.{words_of}
use Rattle.flit_words.specs.Words.{bare_of}
use Rattle.flit_model.specs.States.{word_at, shadow_at}
use Rattle.flit_model.specs.Effects.{after, answer}
use Rattle.flit_model.specs.Settling.{progress_after}
use Rattle.flit_model.specs.declared.events.Event.{Event}
use Rattle.flit_model.specs.declared.events.Event.TheVariants.{Load, Persist}
use Rattle.flit_place.specs.Tags.{Place}
use Rattle.flit_pv.specs.declared.hands.Hand.{Hand}
use Rattle.flit_pv.specs.declared.evicts.Evict.{Evict}
use Rattle.flit_pv.specs.declared.evicts.Evicting.{Evicting}
use Rattle.flit_pv.specs.declared.evicts.Evicting.TheVariants.{Reads as Evict_reads, WritesBack as Evict_writes_back, Done as Evict_done}
use Rattle.flit_pv.specs.Evicts.{evict_started, evict_asks, evict_takes, evict_taken}
use Rattle.flit_runs.specs.Workings as run
use Rattle.flit_runs.specs.Workings.{Idles, Evicts, ToEvict}
use Rattle.flit_runs.specs.Worlds.{Actor, world_of, begun, start, event, HasHad, gone_on as actor_gone}
use Rattle.flit_runs.specs.Worlds as world
use Rattle.flit_runs.specs.Soundness.{IsSound, Knows, EvictKnows, owed}
use Rattle.flit_runs.proofs.ExchangeSteps.{around}
use Rattle.flit_runs.proofs.Turns.{sound-turn, safe}
use Rattle.flit_structure.specs.declared.workers.Worker.{Worker}
use Rattle.flit_structure.specs.Moments.{Moment, with_workers, idle, sweeper}
use Rattle.flit_structure.proofs.WriteBacks.{old_state}
use Rattle.flit_crew.specs.Machines.{hand_of, Tags, SeesNoTag}
use Rattle.flit_crew.proofs.Tagging.{tags_none}
use Rattle.flit_crew.specs.Heaps.{Heap, heap_of, IsMine}
use Rattle.flit_crew.specs.Accounts.{IsSteady}
use Rattle.flit_crew.specs.Crews.{Crew, Holds, stranger_of}
use Rattle.flit_crew.specs.Obligations.{Keeps}
use Rattle.flit_crew.proofs.Acting.{Split}
use Rattle.flit_crew.proofs.Moving.{h, mine, is_sound, moved_still}
use Rattle.flit_runs.proofs.Changes.{sound_rests}
use Rattle.flit_crew.proofs.Accounting.{rows_steady, history_steady}
use Rattle.flit_crew.proofs.WritingBack.{persisted}
use Rattle.flit_crew.proofs.Fencing.{shadow_has}

none_some : (e : Event) → None ≡ Some e → ⊥
none_some e q = cc

same_le : (n : ℕ) → n ≤ n
same_le n = omega arith

module _ {G Op : Type 0} (c : Crew G Op) (l : Layout) (p : Place) (free : List ℕ) (keeps : Keeps c l p free) (M : Moment Op) (a b : List (Worker Op))
    (name number : ℕ) where
  -- an idle worker begins one
  pub evicts : (hand : Hand) (word : ℕ) → word < words_of l → Holds c l p free (with_workers M (a ++ idle name number hand ∷ b)) →
      Holds c l p free (with_workers M (a ++ sweeper name number (evict_started hand word) ∷ b))
  evicts hand word below holds =
      let u : Worker Op = idle name number hand in
      let w : Worker Op = sweeper name number (evict_started hand word) in
      let here = h c l p free keeps M a u b holds in
      let r = mine c l p free keeps M a u b holds in
      let front : List Actor = stranger_of holds.stranger ∷ r.before in
      let g : Actor = record r.actor { at = Evicts (evict_started hand word) } in
      let rests : IsSound p (λ y. false) (world_of M.state front (record r.actor { at = Idles hand }) r.behind) =
      sound_rests p (λ y. false) M.state front r.actor r.behind hand (ap run.writing_at r.mine.at) (ap owed r.mine.at)
      (is_sound c l p free keeps M a u b holds) in
      let sound : IsSound p (λ y. false) (world_of M.state front g r.behind) =
      sound-turn p (λ y. false) (world_of M.state front (record r.actor { at = Idles hand }) r.behind) (world_of M.state front g r.behind)
      (start M.state front (record r.actor { at = Idles hand }) r.behind (ToEvict word) refl (subst (λ n. word < n) (sym holds.words) below)) rests in
      let steady : IsSteady c.anatomy l here u w = record { own = refl; ticket = refl; tight = λ t. t; makes = λ x e is q. absurd q } in
      moved_still c l p free keeps M a u b holds M.state w g refl holds.words holds.slots sound
      (tags_none p M.state M.state r.actor.at g.at refl (subst (λ y. (z bare : ℕ) → Tags z bare y → ⊥) (sym r.mine.at) (λ z bare i. i))) refl
      (record {
        at = refl;
        name = ap (λ y. (hand_of y).name) (sym r.mine.at) ∙ r.mine.name;
        number = ap (λ y. (hand_of y).number) (sym r.mine.at) ∙ r.mine.number;
        least = r.mine.least;
        most = r.mine.most;
        reached = tt;
        reading = tt;
        mine = r.mine.mine;
        published = λ q t. r.mine.doing.0;
        alone = λ one. record {
          machine = tt;
          queued = ap (λ y. (hand_of y).tally.queued) (sym r.mine.at) ∙ (r.mine.alone one).queued;
          seen = (r.mine.alone one).seen;
        };
        doing = (r.mine.doing.0, r.mine.doing.1, below);
      })
      (rows_steady c.anatomy l free M.state.counter here a u w b steady holds.rows)
      (history_steady c.anatomy l free here a u w b refl (same_le number) steady.makes holds.history)

  -- and is done with it, or gives it up
  pub evict_over : (m : Evict) → Holds c l p free (with_workers M (a ++ sweeper name number m ∷ b)) →
      Holds c l p free (with_workers M (a ++ idle name number m.hand ∷ b))
  evict_over m holds =
      let u : Worker Op = sweeper name number m in
      let w : Worker Op = idle name number m.hand in
      let here = h c l p free keeps M a u b holds in
      let r = mine c l p free keeps M a u b holds in
      let front : List Actor = stranger_of holds.stranger ∷ r.before in
      let g : Actor = record r.actor { at = Idles m.hand } in
      let sound : IsSound p (λ y. false) (world_of M.state front g r.behind) =
      sound_rests p (λ y. false) M.state front r.actor r.behind m.hand (ap run.writing_at r.mine.at) (ap owed r.mine.at)
      (is_sound c l p free keeps M a u b holds) in
      let steady : IsSteady c.anatomy l here u w = record { own = refl; ticket = refl; tight = λ t. t; makes = λ x e is q. absurd q } in
      moved_still c l p free keeps M a u b holds M.state w g refl holds.words holds.slots sound
      (tags_none p M.state M.state r.actor.at g.at refl (subst (λ y. (z bare : ℕ) → Tags z bare y → ⊥) (sym r.mine.at) (λ z bare i. i))) refl
      (record {
        at = refl;
        name = ap (λ y. (hand_of y).name) (sym r.mine.at) ∙ r.mine.name;
        number = ap (λ y. (hand_of y).number) (sym r.mine.at) ∙ r.mine.number;
        least = r.mine.least;
        most = r.mine.most;
        reached = tt;
        reading = tt;
        mine = r.mine.mine;
        published = λ q t. r.mine.doing.0;
        alone = λ one. record {
          machine = tt;
          queued = ap (λ y. (hand_of y).tally.queued) (sym r.mine.at) ∙ (r.mine.alone one).queued;
          seen = (r.mine.alone one).seen;
        };
        doing = (r.mine.doing.0, r.mine.doing.1);
      })
      (rows_steady c.anatomy l free M.state.counter here a u w b steady holds.rows)
      (history_steady c.anatomy l free here a u w b refl (same_le number) steady.makes holds.history)

  -- ---- its events

  -- one that changes neither the words without their tags nor the shadows, nor what waits
  still : (m : Evict) (e : Event) → Holds c l p free (with_workers M (a ++ sweeper name number m ∷ b)) → evict_asks m.at m ≡ Some e →
      after M.state e ≡ M.state → (told : ℕ) → told ≡ answer M.state e →
      (evict_taken m told).word ≡ m.word → (evict_taken m told).hand.queue ≡ m.hand.queue → (evict_taken m told).hand.name ≡ m.hand.name →
      (evict_taken m told).hand.number ≡ m.hand.number →
      (evict_taken m told).hand.spare ≡ m.hand.spare → (evict_taken m told).hand.ticket ≡ m.hand.ticket →
      (evict_taken m told).hand.tally.queued ≡ m.hand.tally.queued →
      Holds c l p free (with_workers M (a ++ sweeper name number (evict_taken m told) ∷ b))
  still m e holds asks same told is word queue hname hnumber spare ticket counted =
      let u : Worker Op = sweeper name number m in
      let w : Worker Op = sweeper name number (evict_taken m told) in
      let here = h c l p free keeps M a u b holds in
      let r = mine c l p free keeps M a u b holds in
      let front : List Actor = stranger_of holds.stranger ∷ r.before in
      let g : Actor = actor_gone p M.state e [] r.actor in
      let at : g.at ≡ Evicts (evict_taken m told) = ap (λ y. run.takes p y (answer M.state e)) r.mine.at ∙ ap (λ y. Evicts (evict_taken m y)) (sym is) in
      let sound : IsSound p (λ y. false) (world_of M.state front g r.behind) =
      subst (λ s. IsSound p (λ y. false) (world_of s front g r.behind)) same
      (sound-turn p (λ y. false) (world_of M.state front r.actor r.behind) (world_of (after M.state e) front g r.behind)
      (event M.state front r.actor r.behind e [] (ap (run.asks p) r.mine.at ∙ asks) tt) (is_sound c l p free keeps M a u b holds)) in
      let steady : IsSteady c.anatomy l here u w = record {
        own = ap Rattle.flit_rows.specs.Shares.rows_in spare;
        ticket = ticket;
        tight = λ t. subst (Rattle.flit_crew.specs.Accounts.AreTight l) (sym spare) t;
        makes = λ x d waits q. absurd q;
      } in
      moved_still c l p free keeps M a u b holds M.state w g refl holds.words holds.slots sound
      (tags_none p M.state M.state r.actor.at g.at refl (subst (λ y. (z bare : ℕ) → Tags z bare y → ⊥) (sym r.mine.at) (λ z bare i. i))) refl
      (record {
        at = at;
        name = ap (λ y. (hand_of y).name) at ∙ hname ∙ ap (λ y. (hand_of y).name) (sym r.mine.at) ∙ r.mine.name;
        number = ap (λ y. (hand_of y).number) at ∙ hnumber ∙ ap (λ y. (hand_of y).number) (sym r.mine.at) ∙ r.mine.number;
        least = r.mine.least;
        most = r.mine.most;
        reached = subst (λ y. AllByRecursion (Rattle.flit_crew.specs.Heaps.IsOpen l free here) (run.goes_for y)) (sym at) tt;
        reading = subst (λ y. AllByRecursion (Rattle.flit_crew.specs.Heaps.IsOpen l free here) (Rattle.flit_crew.specs.Machines.reads_for y)) (sym at) tt;
        mine = subst (λ rows. AllByRecursion (IsMine l free here rows) r.actor.private) (sym steady.own) r.mine.mine;
        published = λ q t. r.mine.doing.0;
        alone = λ one. record {
          machine = subst (SeesNoTag p) (sym at) tt;
          queued = ap (λ y. (hand_of y).tally.queued) at ∙ counted ∙ ap (λ y. (hand_of y).tally.queued) (sym r.mine.at) ∙ (r.mine.alone one).queued;
          seen = (r.mine.alone one).seen;
        };
        doing = (r.mine.doing.0, queue ∙ r.mine.doing.1, subst (λ n. n < words_of l) (sym word) r.mine.doing.2);
      })
      (rows_steady c.anatomy l free M.state.counter here a u w b steady holds.rows)
      (history_steady c.anatomy l free here a u w b refl (same_le number) steady.makes holds.history)

  abbrev pub Swept : Evict → Event → Type 0
  Swept m e = Holds c l p free (record M {
    state = after M.state e;
    progress = progress_after M.progress M.state e None;
    workers =
        a ++ sweeper name number (evict_taken m (answer M.state e)) ∷ b;
  })

module _ {G Op : Type 0} (c : Crew G Op) (l : Layout) (p : Place) (free : List ℕ) (keeps : Keeps c l p free) (M : Moment Op) (a b : List (Worker Op))
    (name number : ℕ) (m : Evict) where
  pub evict_steps : (t : Evicting) → m.at ≡ t → (e : Event) → evict_asks t m ≡ Some e →
      Holds c l p free (with_workers M (a ++ sweeper name number m ∷ b)) → Swept c l p free keeps M a b name number m e
  evict_steps Evict_reads at e q holds = subst (Swept c l p free keeps M a b name number m) (same_Some (Load m.word) e q)
      (still c l p free keeps M a b name number m (Load m.word) holds (ap (λ x. evict_asks x m) at) refl (word_at M.state m.word) refl
      (ap (λ x. (evict_takes x m (word_at M.state m.word)).word) at) (ap (λ x. (evict_takes x m (word_at M.state m.word)).hand.queue) at)
      (ap (λ x. (evict_takes x m (word_at M.state m.word)).hand.name) at) (ap (λ x. (evict_takes x m (word_at M.state m.word)).hand.number) at)
      (ap (λ x. (evict_takes x m (word_at M.state m.word)).hand.spare) at) (ap (λ x. (evict_takes x m (word_at M.state m.word)).hand.ticket) at)
      (ap (λ x. (evict_takes x m (word_at M.state m.word)).hand.tally.queued) at))
  evict_steps (Evict_writes_back raw) at e q holds = subst (Swept c l p free keeps M a b name number m) (same_Some (Persist m.word (bare_of raw)) e q) swept
    where
      u : Worker Op
      u = sweeper name number m

      r : Split c l p free (h c l p free keeps M a u b holds) a u b holds.actors
      r = mine c l p free keeps M a u b holds

      front : List Actor
      front = stranger_of holds.stranger ∷ r.before

      known : EvictKnows (λ x. false) M.state (Evict_writes_back raw) m.word
      known = subst (λ x. EvictKnows (λ y. false) M.state x m.word) at
          (subst (Knows p (λ x. false) M.state (around (world.writings front) (run.writing_at r.actor.at) (world.writings r.behind)) r.actor.private)
          r.mine.at
          (safe p (λ x. false) M.state front r.actor r.behind (is_sound c l p free keeps M a u b holds)).knows)

      d : Event
      d = Persist m.word (bare_of raw)

      N : Moment Op
      N = record M { state = after M.state d; progress = progress_after M.progress M.state d None }

      holds_now : Holds c l p free (with_workers N (a ++ u ∷ b))
      holds_now = persisted c l p free keeps (with_workers M (a ++ u ∷ b)) m.word (bare_of raw) r.mine.doing.2 known.1 holds

      old : bare_of raw ≤ shadow_at N.state m.word
      old = shadow_has M.state m.word (bare_of raw) (subst (λ n. m.word < n) (sym (holds.sound.suits.whole ∙ holds.words)) r.mine.doing.2)

      same_taken : (x y : ℕ) → evict_taken m x ≡ evict_taken m y
      same_taken x y = ap (λ z. evict_takes z m x) at ∙ sym (ap (λ z. evict_takes z m y) at)

      swept : Swept c l p free keeps M a b name number m d
      swept = subst (λ x. Holds c l p free (with_workers N (a ++ sweeper name number x ∷ b))) (same_taken (answer N.state d) (answer M.state d))
          (still c l p free keeps N a b name number m d holds_now (ap (λ x. evict_asks x m) at) (old_state N.state m.word (bare_of raw) old) (answer N.state d)
          refl
          (ap (λ x. (evict_takes x m (answer N.state d)).word) at) (ap (λ x. (evict_takes x m (answer N.state d)).hand.queue) at)
          (ap (λ x. (evict_takes x m (answer N.state d)).hand.name) at) (ap (λ x. (evict_takes x m (answer N.state d)).hand.number) at)
          (ap (λ x. (evict_takes x m (answer N.state d)).hand.spare) at) (ap (λ x. (evict_takes x m (answer N.state d)).hand.ticket) at)
          (ap (λ x. (evict_takes x m (answer N.state d)).hand.tally.queued) at))
  evict_steps Evict_done at e q holds = absurd (none_some e q)
