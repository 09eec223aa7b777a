-- Whatever happens at a moment keeps all that holds of it; and what follows of the machine and of the updates.
use Rattle.std.proofs.Common.{◌≡◌, inl, inr, ⊎_elim, ℕ, ◌+◌, false, List, [], ◌∷◌, ◌++◌, Option, Some, None, refl, sym, ◌∙◌, ap, subst}
use Rattle.std.proofs.lemmas.Bool.{eq-eqb}
use Rattle.std.specs.List.{AllByRecursion}
use Rattle.std.specs.FinMap as fin
use Rattle.std.specs.Option.{option_to_list}
use Rattle.flit_words.specs.declared.layouts.Layout.{Layout}
use Rattle.flit_words.specs.Words.{version_of}
use Rattle.flit_model.specs.States.{word_at, shadow_at}
use Rattle.flit_model.specs.CrashImages.{IsAheadAt}
use Rattle.flit_model.specs.declared.events.Event.{Event}
use Rattle.flit_model.specs.declared.calls.Reply.{Reply}
use Rattle.flit_model.specs.declared.calls.Entry.{Entry}
use Rattle.flit_model.proofs.Elements.{all_weaker}
use Rattle.flit_place.specs.Tags.{Place}
use Rattle.flit_place.specs.Covers.{Covers, Shows}
use Rattle.flit_place.proofs.WordTags.{version-bare}
use Rattle.flit_place.specs.declared.writings.Writing.{Writing}
use Rattle.flit_runs.specs.Workings as run
use Rattle.flit_runs.specs.Worlds as world
use Rattle.flit_runs.specs.Worlds.{Actor, IsAway}
use Rattle.flit_runs.proofs.RuleLaws.{covered}
use Rattle.flit_structure.specs.declared.workers.Doing.{Doing}
use Rattle.flit_structure.specs.declared.workers.Doing.TheVariants.{Idle, Busy, Evicting}
use Rattle.flit_structure.specs.declared.workers.Worker.{Worker}
use Rattle.flit_structure.specs.Moments.{Moment, with_workers, made}
use Rattle.flit_structure.specs.Meanings as structure
use Rattle.flit_structure.specs.Meanings.{Meaning, Happens, hiring, reordering, beginning, finishing, evicting, evicted, making, writing_back, asks, reply_at, moment_after}
use Rattle.flit_structure.specs.Lawful.{IsSized, IsNearShadow, AreMade, IsUnderWay, IsOfHand, AreNamed, IsNamed}
use Rattle.flit_crew.specs.Machines.{hand_of}
use Rattle.flit_crew.specs.Heaps.{Heap, heap_of, IsHidden}
use Rattle.flit_crew.specs.Anatomies.{doing_working}
use Rattle.flit_crew.specs.Accounts.{IsAny, HasNumber, IsMaker, Makes}
use Rattle.flit_crew.specs.Crews.{Crew, AllAct, Holds, stranger_of}
use Rattle.flit_crew.specs.CrewMeanings.{Bounds, crew_meaning}
use Rattle.flit_crew.specs.Obligations.{Keeps}
use Rattle.flit_crew.proofs.WritingBack.{written_back, word_bare}
use Rattle.flit_crew.proofs.Arriving.{away}
use Rattle.flit_crew.proofs.Going.{all_hidden}
use Rattle.flit_crew.proofs.Outside.{outside_hidden}
use Rattle.flit_crew.proofs.Hiring.{hires, orders}
use Rattle.flit_crew.proofs.Beginning.{begins, ends}
use Rattle.flit_crew.proofs.Evicting.{evicts, evict_over, evict_steps}
use Rattle.flit_crew.proofs.CallSteps.{call_step}
use Rattle.flit_crew.proofs.Crashing.{waits_ahead}

none_some : (e : Event) → None ≡ Some e → ⊥
none_some e q = cc

none_asked : (o : Option Event) (x y : Reply) → reply_at o x ≡ Some y → o ≡ None
none_asked None x y q = refl
none_asked (Some e) x y q = absurd (cc)

module _ {G Op : Type 0} (c : Crew G Op) (l : Layout) (p : Place) (free : List ℕ) (bounds : Bounds Op) where
  abbrev meaning : Meaning Op
  meaning = crew_meaning c l p free bounds

  module _ (keeps : Keeps c l p free) where
    worker_step : (M : Moment Op) (a : List (Worker Op)) (name number : ℕ) (d : Doing Op) (b : List (Worker Op)) (e : Event) →
        let u : Worker Op = record { name = name; number = number; doing = d } in
        asks meaning d ≡ Some e → Holds c l p free (with_workers M (a ++ u ∷ b)) → Holds c l p free (moment_after meaning M e a u b)
    worker_step M a name number (Idle hand) b e q h = absurd (none_some e q)
    worker_step M a name number (Busy op call begun) b e q h = call_step c l p free keeps M a name number op call begun b h (c.anatomy.machine op) refl e q
    worker_step M a name number (Evicting m) b e q h = evict_steps c l p free keeps M a b name number m m.at refl e q h

    pub happens : (who : Option ℕ) (M N : Moment Op) → Happens meaning who M N → Holds c l p free M → Holds c l p free N
    happens _ _ _ (hiring M name least most new) h = hires c l p free M name least most new h
    happens _ _ _ (reordering M a x y b) h = orders c l p free M a x y b h
    happens _ _ _ (beginning M a name number hand call b may) h = begins c l p free keeps M a b name number hand call may.served h
    happens _ _ _ (finishing M a name number op call begun reply b replied) h =
        ends c l p free keeps M a b name number op call begun h (none_asked _ (c.anatomy.reply op) reply replied)
    happens _ _ _ (evicting M a name number hand word b below) h = evicts c l p free keeps M a b name number hand word below h
    happens _ _ _ (evicted M a name number evict b) h = evict_over c l p free keeps M a b name number evict h
    happens _ _ _ (making M a u b e q) h = worker_step M a u.name u.number u.doing b e q h
    happens _ _ _ (writing_back M word below) h = written_back c l p free keeps M h word below

  -- ---- the machine

  pub is_sized : (M : Moment Op) → Holds c l p free M → IsSized l M.state
  is_sized M h = record { accepted = h.accepted; words = h.words; shadows = h.sound.suits.whole ∙ h.words; slots = h.slots }

  pub is_near : (M : Moment Op) (word : ℕ) → Holds c l p free M → IsNearShadow (word_at M.state word) (shadow_at M.state word)
  is_near M word h = record {
    near = ⊎_elim (λ k. inl k) (λ k. inr (eq-eqb (version_of (word_at M.state word)) (version_of (shadow_at M.state word) + 1) k))
        ((h.sound.words word).close refl);
    untagged = (h.sound.words word).bare;
  }

  -- ---- the workers

  pub are_named : (M : Moment Op) → Holds c l p free M → AreNamed meaning M.workers
  are_named M h = record { different = h.different; each = each M.workers h.actors h.acts }
    where
      doing_hand : (d : Doing Op) → structure.hand_in meaning d ≡ hand_of (doing_working c.anatomy d)
      doing_hand (Idle hand) = refl
      doing_hand (Busy op call begun) = refl
      doing_hand (Evicting m) = refl

      each : (us : List (Worker Op)) (gs : List Actor) → AllAct c l p free (heap_of M h.given h.ghost) us gs → AllByRecursion (IsNamed meaning) us
      each [] [] m = tt
      each [] (g ∷ gs) m = absurd m
      each (u ∷ us) [] m = absurd m
      each (u ∷ us) (g ∷ gs) m = (
        record {
          least = m.0.least;
          most = m.0.most;
          name = ap (λ x. x.name) (doing_hand u.doing) ∙ ap (λ x. (hand_of x).name) (sym m.0.at) ∙ m.0.name;
          number = ap (λ x. x.number) (doing_hand u.doing) ∙ ap (λ x. (hand_of x).number) (sym m.0.at) ∙ m.0.number;
        },
        each us gs m.1,
      )

  doing_writing : (d : Doing Op) → run.writing_at (doing_working c.anatomy d) ≡ structure.writing_in meaning d
  doing_writing (Idle hand) = refl
  doing_writing (Busy op call begun) = refl
  doing_writing (Evicting m) = refl

  listed : (o : Option Writing) (ws : List Writing) → option_to_list o ++ ws ≡ structure.with_writing o ws
  listed None ws = refl
  listed (Some w) ws = refl

  same_writings : (k : Heap G) (us : List (Worker Op)) (gs : List Actor) → AllAct c l p free k us gs → world.writings gs ≡ structure.writings meaning us
  same_writings k [] [] m = refl
  same_writings k [] (g ∷ gs) m = absurd m
  same_writings k (u ∷ us) [] m = absurd m
  same_writings k (u ∷ us) (g ∷ gs) m =
      listed (run.writing_at g.at) (world.writings gs)
      ∙ ap (λ o. structure.with_writing o (world.writings gs)) (ap run.writing_at m.0.at ∙ doing_writing u.doing)
      ∙ ap (λ ws. structure.with_writing (structure.writing_in meaning u.doing) ws) (same_writings k us gs m.1)

  pub covers : (M : Moment Op) → Holds c l p free M → Covers p M.state (structure.writings meaning M.workers)
  covers M h = subst (Covers p M.state) (same_writings (heap_of M h.given h.ghost) M.workers h.actors h.acts) h.sound.covers

  -- a word at which an update waits shows a tag
  pub shows : (M : Moment Op) (word : ℕ) (e : Entry) → Holds c l p free M → fin.get M.progress.waiting word ≡ Some e → Shows p M.state word
  shows M word e h is =
      let k : Heap G = heap_of M h.given h.ghost in
      let w = h.history.waits word e is in
      covered p (λ x. false) (record { state = M.state; workers = stranger_of h.stranger ∷ h.actors }) h.sound word refl
      (all_weaker (λ g. AllByRecursion (IsHidden l free k) g.private) (λ g. IsAway g.private word) (λ g shut. away c l p free k word w.0 g.private shut)
      (stranger_of h.stranger ∷ h.actors) (outside_hidden l free k h.opening h.stranger h.outside, all_hidden c l p free k M.workers h.actors h.acts))
      (sym (ap version_of (word_bare M.state.words word) ∙ version-bare (word_at M.state word)) ∙ w.1)

  -- ---- the updates

  any_of_hand : (e : Entry) (us : List (Worker Op)) → IsAny (HasNumber c.anatomy e) us → IsOfHand us e
  any_of_hand e [] k = absurd k
  any_of_hand e (u ∷ us) (inl k) = (u, ([], us, refl), k.0, k.1)
  any_of_hand e (u ∷ us) (inr k) = let r = any_of_hand e us k in (r.0, (u ∷ r.1.0, r.1.1, ap (λ xs. u ∷ xs) r.1.2), r.2, r.3)

  pub entries : (M : Moment Op) → Holds c l p free M → AreMade M.workers M.progress
  entries M h = record {
    updates = h.history.updates;
    rises = h.history.rises;
    numbered = all_weaker (λ e. IsAny (HasNumber c.anatomy e) M.workers) (IsOfHand M.workers) (λ e k. any_of_hand e M.workers k) (made M.progress)
        h.history.numbered;
  }

  under_way : (word : ℕ) (e : Entry) (us : List (Worker Op)) → IsAny (IsMaker c.anatomy word e) us → IsUnderWay us e
  under_way word e [] k = absurd k
  under_way word e (u ∷ us) (inl k) = by_doing u.name u.number u.doing k
    where
      by_doing : (name number : ℕ) (d : Doing Op) → Makes c.anatomy word e name number d →
          IsUnderWay (record { name = name; number = number; doing = d } ∷ us) e
      by_doing name number (Idle hand) m = absurd m
      by_doing name number (Busy op call begun) m = (name, number, op, call, begun, ([], us, refl), m.1)
      by_doing name number (Evicting x) m = absurd m
  under_way word e (u ∷ us) (inr k) = let r = under_way word e us k in (r.0, r.1, r.2, r.3, r.4, (u ∷ r.5.0, r.5.1, ap (λ xs. u ∷ xs) r.5.2), r.6)

  pub waits : (keeps : Keeps c l p free) (M : Moment Op) (word : ℕ) (e : Entry) → Holds c l p free M → fin.get M.progress.waiting word ≡ Some e →
      IsAheadAt M.state word × IsUnderWay M.workers e
  waits keeps M word e h is = (waits_ahead c l p free keeps M h word e is, under_way word e M.workers (h.history.waits word e is).2)
