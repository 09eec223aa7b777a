-- Others than the structure store a word of a foreign row: all that holds goes on holding.
use Rattle.std.proofs.Common.{◌≡◌, ◌≢◌, ◌⊎◌, inl, inr, ⊎_elim, ℕ, ◌+◌, ◌<◌, ◌≤◌, Bool, true, false, List, [], ◌∷◌, length, map, slice_set, Option, Some, None, refl, sym, ◌∙◌, ap, subst, arith}
use Rattle.std.proofs.lemmas.List.{length-set, length-map, map-set}
use Rattle.std.specs.Prelude.{Contains}
use Rattle.std.specs.List.{AllByRecursion}
use Rattle.flit_words.specs.declared.layouts.Layout.{Layout}
use Rattle.flit_words.specs.Layouts.{words_of}
use Rattle.flit_words.specs.Words.{bare_of, is_tagged, version_of}
use Rattle.flit_model.specs.States.{State, word_at, shadow_at, IsPersistent}
use Rattle.flit_model.specs.Effects.{after}
use Rattle.flit_model.specs.declared.calls.Entry.{Entry}
use Rattle.flit_model.specs.declared.events.Event.TheVariants.{Store}
use Rattle.flit_model.proofs.Elements.{all_contained}
use Rattle.flit_place.specs.Tags.{Place}
use Rattle.flit_place.proofs.CoverSteps.{index-set}
use Rattle.flit_place.proofs.WordTags.{bare-untagged}
use Rattle.flit_pv.specs.Hands.{with_pair}
use Rattle.flit_pv.specs.Queues.{noted}
use Rattle.flit_runs.specs.Workings.{dependency}
use Rattle.flit_runs.specs.Worlds.{Actor, writings}
use Rattle.flit_runs.specs.Soundness.{IsSound}
use Rattle.flit_runs.proofs.Changes.{sound_stores}
use Rattle.flit_structure.specs.declared.workers.Worker.{Worker}
use Rattle.flit_structure.specs.Moments.{Moment}
use Rattle.flit_crew.specs.Machines.{Tags}
use Rattle.flit_crew.specs.Heaps.{Heap, heap_of, at_word, at_shadow, waits_at, stored, IsOpen, IsWordOf, AreAlike}
use Rattle.flit_crew.specs.Anatomies.{own_in}
use Rattle.flit_crew.specs.Accounts.{IsAny}
use Rattle.flit_crew.specs.Crews.{Crew, Holds, Stranger, stranger_of, IsForeignWord}
use Rattle.flit_crew.specs.Obligations.{Keeps}
use Rattle.flit_crew.proofs.Acting.{Moves, AllStay, all_last}
use Rattle.flit_crew.proofs.Accounting.{rows_same, history_words}
use Rattle.flit_crew.proofs.Others.{IsDrawn, IsUntouched, all_drawn, all_untouched}
use Rattle.flit_crew.proofs.Outside.{foreign_within, foreign_away, foreign_hidden}
use Rattle.flit_crew.proofs.Owning.{all_old, lower}
use Rattle.flit_crew.proofs.Trying.{same_le}
use Rattle.flit_crew.proofs.Updating.{follows_same}

module _ {G Op : Type 0} (c : Crew G Op) (l : Layout) (p : Place) (free : List ℕ) (keeps : Keeps c l p free) (M : Moment Op) (holds : Holds c l p free M)
    (w to : ℕ) (among : Contains holds.stranger.private w) (rests : IsPersistent M.state w (version_of (word_at M.state w)))
    (bare : is_tagged to ≡ false) (next : version_of to ≡ version_of (word_at M.state w) + 1) where
  abbrev here : Heap G
  here = heap_of M holds.given holds.ghost

  abbrev t : State
  t = after M.state (Store w to)

  abbrev pub N : Moment Op
  N = record M { state = t }

  foreign : IsForeignWord l free M.opening w
  foreign = all_contained (IsForeignWord l free M.opening) holds.stranger.private w holds.outside.foreign among

  pub below : w < length M.state.words
  below = subst (λ n. w < n) (sym holds.words) (foreign_within l free M.opening w foreign)

  below_heap : w < length here.words
  below_heap = subst (λ x. w < x) (sym (length-map M.state.words bare_of)) below

  -- what everybody may reach is another word
  open_other : (x : ℕ) → IsOpen l free here x → x ≢ w
  open_other x o same = foreign_hidden l free here w foreign (subst (IsOpen l free here) same o)

  waits_other : (x : ℕ) (e : Entry) → waits_at here x ≡ Some e → x ≢ w
  waits_other x e q = open_other x (holds.history.waits x e q).0

  abbrev after_store : Heap G
  after_store = stored here w to

  heap_is : after_store ≡ heap_of N holds.given holds.ghost
  heap_is = ap (λ ws. record here { words = ws }) (sym (map-set bare_of M.state.words w to
      ∙ ap (λ y. slice_set (map bare_of M.state.words) w y) (bare-untagged to bare)))

  other_word : (x : ℕ) → x ≢ w → at_word after_store x ≡ at_word here x
  other_word x ne = ⊎_elim (λ q. absurd (ne q.0)) (λ q. q.1) (index-set here.words w to x below_heap)

  alike : AreAlike l free here after_store
  alike = record {
    opening = refl;
    progress = refl;
    given = refl;
    ghost = refl;
    words = λ x o. other_word x (open_other x o);
    shadows = λ x o. refl;
    number = length-set here.words w to;
    shadows_number = refl;
    untagged = λ x lt. (holds.sound.words x).bare;
  }

  given_parts : (row : ℕ) → Contains after_store.given row → Contains here.given row ⊎ Contains [] row
  given_parts row has = inl has

  none_linked : (row : ℕ) → Contains [] row → ⊥
  none_linked row has = none has.0 has.1
    where
      none : (i : ℕ) → i < 0 → ⊥
      none i lt = omega (arith, lt)

  none_named : (us : List (Worker Op)) → AllByRecursion (λ v. None ≢ Some v.name) us
  none_named [] = tt
  none_named (v ∷ us) = (clash v.name, none_named us)
    where
      clash : (n : ℕ) → ◌≡◌ {A = Option ℕ} None (Some n) → ⊥
      clash n e = cc

  untouched : (us : List (Worker Op)) → AllByRecursion (IsDrawn (λ v. own_in c.anatomy v.doing) free holds.given) us →
      AllByRecursion (IsUntouched c l p free None here after_store w [] other_word given_parts) us
  untouched [] drawn = tt
  untouched (v ∷ us) drawn = (
    λ row has. (
      none_linked row,
      λ x of same. foreign_away l free M.opening holds.pool row x w (drawn.0 row has).0 of foreign (sym same),
    ),
    untouched us drawn.1,
  )

  all_stay : AllStay c l p free None here after_store M.workers holds.actors
  all_stay = all_untouched c l p free None here after_store w [] other_word given_parts M.workers holds.actors (none_named M.workers)
      (untouched M.workers (all_drawn (λ v. own_in c.anatomy v.doing) free M.state.counter holds.given M.workers
      (lower free holds.pool.rising) holds.rows.dealt))
      (all_old p (λ x. false) M.state (writings (stranger_of holds.stranger ∷ holds.actors))
      here (stranger_of holds.stranger ∷ holds.actors) holds.sound.words refl
      holds.sound.workers).1 holds.acts

  abbrev now : Stranger
  now = record holds.stranger {
    hand = with_pair holds.stranger.hand (noted w to);
    needs = dependency w (version_of to) ∷ holds.stranger.needs;
  }

  sound : IsSound p (λ x. false) (record { state = t; workers = stranger_of now ∷ holds.actors })
  sound = sound_stores p (λ x. false) M.state [] holds.stranger.hand holds.stranger.needs [] holds.stranger.private holds.actors (noted w to)
      (record { mine = among; bare = bare; persistent = rests; next = next }) holds.sound

  -- no tag is new
  tagged : p.counted ≡ false → (x : ℕ) → is_tagged (word_at t x) ≡ true → IsAny (λ g. Tags x (bare_of (word_at t x)) g.at) holds.actors
  tagged counted x tag = ⊎_elim (λ q. absurd (clash (is_tagged to) (subst (λ raw. is_tagged raw ≡ true) q.1 tag) bare))
      (λ q. subst (λ raw. IsAny (λ g. Tags x (bare_of raw) g.at) holds.actors) (sym q.1)
      (holds.tagged counted x (subst (λ raw. is_tagged raw ≡ true) q.1 tag))) (index-set M.state.words w to x below)
    where
      clash : (b : Bool) → b ≡ true → b ≡ false → ⊥
      clash b q r = cc

  pub foreign_stored : Holds c l p free N
  foreign_stored =
      let blind = keeps.blind here after_store None holds.kept alike in
      let moves : Moves c l p free None here after_store = record {
        was = holds.kept;
        is = blind.0;
        opening = refl;
        later = blind.1;
        follows = follows_same None here after_store refl (λ x e q. other_word x (waits_other x e q));
        given = λ row has. has;
        risen = λ x. same_le (version_of (at_shadow here x));
      } in
      let k : Heap G = heap_of N holds.given holds.ghost in
      record {
        given = holds.given;
        ghost = holds.ghost;
        actors = holds.actors;
        opening = holds.opening;
        pool_is = holds.pool_is;
        stranger = now;
        outside = record { foreign = holds.outside.foreign; all = holds.outside.all };
        accepted = holds.accepted;
        pool = holds.pool;
        words = length-set M.state.words w to ∙ holds.words;
        slots = holds.slots;
        sound = sound;
        tagged = tagged;
        kept = subst c.kept heap_is blind.0;
        acts = all_last c l p free keeps None here k (subst (Moves c l p free None here) heap_is moves) M.workers holds.actors
            (subst (λ h. AllStay c l p free None here h M.workers holds.actors) heap_is all_stay) holds.acts;
        rows = rows_same c.anatomy l free M.state.counter here k M.workers refl refl holds.rows;
        history = subst (λ h. Rattle.flit_crew.specs.Accounts.History c.anatomy l free h M.workers) heap_is
            (history_words c.anatomy l free here after_store M.workers refl (λ x o. record { within = o.within; given = o.given; ours = o.ours })
            (λ x e q. ap version_of (other_word x (waits_other x e q)) ∙ (holds.history.waits x e q).1) holds.history);
        different = holds.different;
      }
