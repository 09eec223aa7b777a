-- A write-back of what a word has had, by anybody, keeps all that holds.
use Rattle.std.proofs.Common.{◌≡◌, ◌≢◌, ◌⊎◌, inl, inr, ⊎_elim, ℕ, ◌+◌, ◌<◌, ◌≤◌, nat_lt, max, true, false, List, [], ◌∷◌, length, map, slice_index, slice_set, Option, Some, None, refl, sym, ◌∙◌, ap, subst, cond, arith}
use Rattle.std.proofs.lemmas.Bool.{cases_lt}
use Rattle.std.proofs.lemmas.List.{length-set}
use Rattle.std.specs.Prelude.{Contains}
use Rattle.std.proofs.Math.ListN.{get_or-map}
use Rattle.std.proofs.lemmas.Bool.Decides.{nat_tests}
use Rattle.std.specs.List.{AllByRecursion}
use Rattle.std.specs.Option.{option_to_list}
use Rattle.std.specs.FinMap as fin
use Rattle.flit_words.specs.declared.layouts.Layout.{Layout}
use Rattle.flit_words.specs.Layouts.{words_of}
use Rattle.flit_words.specs.Words.{bare_of, version_of}
use Rattle.flit_model.specs.States.{State, word_at, shadow_at}
use Rattle.flit_model.specs.Effects.{after}
use Rattle.flit_model.specs.Settling.{Progress, progress_after, settles}
use Rattle.flit_model.specs.CrashImages.{write_back}
use Rattle.flit_model.specs.declared.calls.Entry.{Entry}
use Rattle.flit_model.specs.declared.events.Event.TheVariants.{Persist}
use Rattle.flit_place.specs.Tags.{Place}
use Rattle.flit_runs.specs.Worlds.{Actor, HasHad, writes_back, writings, IsNobodys}
use Rattle.flit_runs.specs.Workings.{goes_for, writing_at}
use Rattle.flit_runs.proofs.Lists.{all_among, among_or_away}
use Rattle.flit_place.proofs.CoverSteps.{index-set}
use Rattle.flit_runs.specs.Soundness.{IsSound, HasWon}
use Rattle.flit_runs.proofs.Turns.{sound-turn}
use Rattle.flit_structure.specs.declared.workers.Worker.{Worker}
use Rattle.flit_structure.specs.Moments.{Moment}
use Rattle.flit_structure.proofs.WriteBacks.{old_state, old_progress}
use Rattle.flit_runs.proofs.Reading.{had-now}
use Rattle.flit_place.proofs.WordTags.{version-bare, version-max_left}
use Rattle.flit_model.proofs.Elements.{all_weaker}
use Rattle.flit_crew.specs.Heaps.{Heap, heap_of, written, IsOpen, IsHidden, IsMine, IsAhead, AreOld, AreAlike}
use Rattle.flit_crew.specs.Anatomies.{own_in}
use Rattle.flit_crew.specs.Crews.{Crew, AllAct, Holds, stranger_of}
use Rattle.flit_crew.specs.Obligations.{Keeps}
use Rattle.flit_crew.proofs.Acting.{Moves, AllStay, all_last, hidden_of}
use Rattle.flit_crew.proofs.Outside.{outside_hidden}
use Rattle.flit_crew.proofs.Updating.{Follows, follows_settled}
use Rattle.flit_crew.proofs.Accounting.{rows_same, inserts_settled}
use Rattle.flit_crew.proofs.Recording.{history_settled}
use Rattle.flit_crew.proofs.Owning.{all_old, working_goes, won_parts}

pub word_bare : (words : List ℕ) (w : ℕ) → slice_index (map bare_of words) w ≡ bare_of (slice_index words w)
word_bare words w = get_or-map bare_of words w 0

less_true : (a b : ℕ) → a < b → nat_lt a b ≡ true
less_true a b h = grind (arith, nat_tests)

greater : (a b : ℕ) → a < b → max a b ≡ b
greater a b h = omega (arith, h)

module _ {G Op : Type 0} (c : Crew G Op) (l : Layout) (p : Place) (free : List ℕ) (keeps : Keeps c l p free) (M : Moment Op) (holds : Holds c l p free M)
    (word : ℕ) (below : word < words_of l) where
  abbrev h : Heap G
  h = heap_of M holds.given holds.ghost

  abbrev kept : ℕ
  kept = bare_of (word_at M.state word)

  abbrev t : State
  t = after M.state (Persist word kept)

  abbrev everybody : List Actor
  everybody = stranger_of holds.stranger ∷ holds.actors

  sound : IsSound p (λ w. false) (record { state = t; workers = everybody })
  sound = sound-turn p (λ w. false) (record { state = M.state; workers = everybody }) (record { state = t; workers = everybody })
      (writes_back M.state everybody word kept (subst (λ n. word < n) (sym holds.words) below) (had-now (λ w. false) M.state word)) holds.sound

  -- a word that rises is ahead
  next : shadow_at M.state word < kept → version_of (word_at M.state word) ≡ version_of (shadow_at M.state word) + 1
  next less = ⊎_elim (λ e. absurd (irreflexive (shadow_at M.state word) kept less e)) (λ n. n) ((holds.sound.words word).close refl)
    where
      irreflexive : (a b : ℕ) → a < b → b ≡ a → ⊥
      irreflexive a b i e = omega (arith, i, e)

  bare_version : (raw : ℕ) → version_of (bare_of raw) ≡ version_of raw
  bare_version raw = version-bare raw

  abbrev risen : Progress
  risen = settles M.progress word (fin.get M.progress.waiting word)

  abbrev N : Moment Op
  N = record M { state = t; progress = risen }

  is_ahead : shadow_at M.state word < kept → IsAhead h word
  is_ahead less = ap version_of (word_bare M.state.words word) ∙ bare_version (word_at M.state word) ∙ next less

  -- no shadow falls
  risen_shadows : (x : ℕ) → version_of (slice_index M.state.shadows x) ≤ version_of (slice_index t.shadows x)
  risen_shadows x = ⊎_elim
      (λ q. subst (λ n. version_of (slice_index M.state.shadows x) ≤ version_of n) (sym q.1)
      (subst (λ y. version_of (slice_index M.state.shadows y) ≤ version_of (max (shadow_at M.state word) kept)) (sym q.0)
      (version-max_left (shadow_at M.state word) kept)))
      (λ q. subst (λ n. version_of (slice_index M.state.shadows x) ≤ version_of n) (sym q.1) (same_le (version_of (slice_index M.state.shadows x))))
      (index-set M.state.shadows word (max (shadow_at M.state word) kept) x (subst (λ n. word < n) (sym (holds.sound.suits.whole ∙ holds.words)) below))
    where
      same_le : (n : ℕ) → n ≤ n
      same_le n = omega arith

  -- all workers stay: no word changes
  all_stay_written : (k : Heap G) → k.words ≡ h.words → k.given ≡ h.given → (us : List (Worker Op)) (gs : List Actor) →
      AllByRecursion (λ g. AreOld h g.needs) gs → AllAct c l p free h us gs → AllStay c l p free None h k us gs
  all_stay_written k same given [] [] old m = tt
  all_stay_written k same given [] (g ∷ gs) old m = absurd m
  all_stay_written k same given (u ∷ us) [] old m = absurd m
  all_stay_written k same given (u ∷ us) (g ∷ gs) old m = (
    record {
      other = none_some u.name;
      rows = λ row w own is. ap (λ ws. slice_index ws w) same;
      mine = all_weaker (IsMine l free h (own_in c.anatomy u.doing)) (IsMine l free k (own_in c.anatomy u.doing))
          (λ w s. record {
            shut = record {
              row = s.shut.row;
              pool = s.shut.pool;
              word = s.shut.word;
              unlinked =
                  λ has. s.shut.unlinked (subst (λ rows. Contains rows s.shut.row) given has);
            };
            own = s.own;
          }) g.private m.0.mine;
      old = old.0;
    },
    all_stay_written k same given us gs old.1 m.1,
  )
    where
      none_some : (n : ℕ) → ◌≡◌ {A = Option ℕ} None (Some n) → ⊥
      none_some n e = cc

  -- the moment after it, once the heap is kept
  after_it : (ghost : G) → c.kept (heap_of N holds.given ghost) → c.later None h (heap_of N holds.given ghost) → Holds c l p free N
  after_it ghost is later =
      let k : Heap G = heap_of N holds.given ghost in
      let follows : Follows None h k = follows_settled h k word refl refl in
      let moves : Moves c l p free None h k =
      record { was = holds.kept; is = is; opening = refl; later = later; follows = follows; given = λ row q. q; risen = risen_shadows } in
      record {
        given = holds.given;
        ghost = ghost;
        actors = holds.actors;
        opening = holds.opening;
        pool_is = holds.pool_is;
        stranger = holds.stranger;
        outside = holds.outside;
        accepted = holds.accepted;
        pool = holds.pool;
        words = holds.words;
        slots = holds.slots;
        sound = sound;
        tagged = holds.tagged;
        kept = is;
        acts = all_last c l p free keeps None h k moves M.workers holds.actors
            (all_stay_written k refl refl M.workers holds.actors (all_old p (λ w. false) M.state (writings everybody) h everybody holds.sound.words refl
            holds.sound.workers).1 holds.acts) holds.acts;
        rows = rows_same c.anatomy l free M.state.counter h k M.workers refl (inserts_settled M.progress word) holds.rows;
        history = history_settled c.anatomy l free h k word M.workers holds.different follows refl refl refl refl (λ x ne. other_shadow x ne) holds.history;
        different = holds.different;
      }
    where
      below_shadows : word < length M.state.shadows
      below_shadows = subst (λ n. word < n) (sym (holds.sound.suits.whole ∙ holds.words)) below

      other_shadow : (x : ℕ) → x ≢ word → slice_index (slice_set M.state.shadows word (max (shadow_at M.state word) kept)) x ≡ slice_index M.state.shadows x
      other_shadow x ne = ⊎_elim (λ q. absurd (ne q.0)) (λ q. q.1) (index-set M.state.shadows word (max (shadow_at M.state word) kept) x below_shadows)

  -- everybody may reach it
  rises_open : shadow_at M.state word < kept → IsOpen l free h word → Holds c l p free N
  rises_open less o =
      let r = keeps.settles h word holds.kept o (is_ahead less) in
      let same : written h word r.0 ≡ heap_of N holds.given r.0 = ap (λ x. record h {
        shadows = slice_set M.state.shadows word x;
        progress = risen;
        ghost =
            r.0;
      }) (word_bare M.state.words word ∙ sym (greater (shadow_at M.state word) kept less)) in
      after_it r.0 (subst c.kept same r.1) (subst (λ k. c.later None h k) same r.2)

  -- it is private to a worker, or a word of a foreign row
  rises_hidden : shadow_at M.state word < kept → IsHidden l free h word → Holds c l p free N
  rises_hidden less hidden = let r = keeps.blind h k None holds.kept alike in after_it holds.ghost r.0 r.1
    where
      k : Heap G
      k = heap_of N holds.given holds.ghost

      apart : (x : ℕ) → IsOpen l free h x → x ≢ word
      apart x o e = hidden (subst (IsOpen l free h) e o)

      some_none : (e : Entry) → None ≡ Some e → ⊥
      some_none e q = cc

      none_waits : (o : Option Entry) → fin.get M.progress.waiting word ≡ o → settles M.progress word o ≡ M.progress
      none_waits None q = refl
      none_waits (Some e) q = absurd (apart word (holds.history.waits word e q).0 refl)

      below_shadows : word < length M.state.shadows
      below_shadows = subst (λ n. word < n) (sym (holds.sound.suits.whole ∙ holds.words)) below

      alike : AreAlike l free h k
      alike = record {
        opening = refl;
        progress = none_waits (fin.get M.progress.waiting word) refl;
        given = refl;
        ghost = refl;
        words = λ x o. refl;
        shadows = λ x o. ⊎_elim (λ q. absurd (apart x o q.0)) (λ q. q.1) (index-set M.state.shadows word (max (shadow_at M.state word) kept) x below_shadows);
        number = refl;
        shadows_number = length-set M.state.shadows word (max (shadow_at M.state word) kept);
        untagged = λ w lt. (sound.words w).bare;
      }

  -- it is the one or the other
  private_or_away : (us : List (Worker Op)) (gs : List Actor) → AllAct c l p free h us gs → IsHidden l free h word ⊎ IsNobodys gs word
  private_or_away [] [] m = inr tt
  private_or_away [] (g ∷ gs) m = absurd m
  private_or_away (u ∷ us) [] m = absurd m
  private_or_away (u ∷ us) (g ∷ gs) m = ⊎_elim (λ k. inl (all_among (IsHidden l free h) g.private word (hidden_of c l p free h u g m.0) k))
      (λ k. ⊎_elim (λ q. inl q) (λ q. inr (k, q)) (private_or_away us gs m.1)) (among_or_away g.private word)

  won_open : (bare : ℕ) (us : List (Worker Op)) (gs : List Actor) → AllAct c l p free h us gs → HasWon (writings gs) word bare → IsOpen l free h word
  won_open bare [] [] m q = absurd q
  won_open bare [] (g ∷ gs) m q = absurd m
  won_open bare (u ∷ us) [] m q = absurd m
  won_open bare (u ∷ us) (g ∷ gs) m q = ⊎_elim
      (λ k. ⊎_elim (λ i. all_among (IsOpen l free h) (goes_for g.at) word m.0.reached i) (λ away. absurd (working_goes g.at word bare away k))
      (among_or_away (goes_for g.at) word))
      (λ k. won_open bare us gs m.1 k) (won_parts (option_to_list (writing_at g.at)) (writings gs) word bare q)

  foreign_or_not : IsHidden l free h word ⊎ IsNobodys everybody word
  foreign_or_not = ⊎_elim
      (λ k. inl (all_among (IsHidden l free h) holds.stranger.private word (outside_hidden l free h holds.opening holds.stranger holds.outside) k))
      (λ away. ⊎_elim (λ k. inl k) (λ k. inr (away, k)) (private_or_away M.workers holds.actors holds.acts))
      (among_or_away holds.stranger.private word)

  rises : shadow_at M.state word < kept → Holds c l p free N
  rises less = ⊎_elim (rises_hidden less) (λ nobodys. ⊎_elim (λ k. absurd (not_ahead (version_of (word_at M.state word)) (version_of (shadow_at M.state word)) k
      (next less)))
      (λ k. rises_open less (won_open (bare_of (word_at M.state word)) M.workers holds.actors holds.acts k)) (holds.sound.settled word refl nobodys))
      foreign_or_not
    where
      not_ahead : (a b : ℕ) → a ≤ b → a ≡ b + 1 → ⊥
      not_ahead a b i e = omega (arith, i, e)

  pub written_back : Holds c l p free (record M {
    state = after M.state (write_back M.state word);
    progress =
        progress_after M.progress M.state (write_back M.state word) None;
  })
  written_back = ⊎_elim
      (λ less. subst (λ b. Holds c l p free (record M { state = t; progress = cond b (settles M.progress word (fin.get M.progress.waiting word)) M.progress }))
      (sym (less_true (shadow_at M.state word) kept less)) (rises less))
      (λ le. subst (λ s. Holds c l p free (record M { state = s; progress = progress_after M.progress M.state (Persist word kept) None }))
      (sym (old_state M.state word kept le))
      (subst (λ q. Holds c l p free (record M { progress = q })) (sym (old_progress M.progress M.state word kept None le)) holds))
      (cases_lt (shadow_at M.state word) kept)

-- and so a write-back of whatever a word has had
pub persisted : {G Op : Type 0} (c : Crew G Op) (l : Layout) (p : Place) (free : List ℕ) (keeps : Keeps c l p free) (M : Moment Op) (word kept : ℕ) →
    word < words_of l → HasHad (λ w. false) M.state word kept → Holds c l p free M →
    Holds c l p free (record M { state = after M.state (Persist word kept); progress = progress_after M.progress M.state (Persist word kept) None })
persisted c l p free keeps M word kept below had h = ⊎_elim
    (λ le. subst (λ s. Holds c l p free (record M { state = s; progress = progress_after M.progress M.state (Persist word kept) None }))
    (sym (old_state M.state word kept le))
    (subst (λ q. Holds c l p free (record M { progress = q })) (sym (old_progress M.progress M.state word kept None le)) h))
    (λ is. subst (λ k. Holds c l p free (record M {
      state = after M.state (Persist word k);
      progress =
          progress_after M.progress M.state (Persist word k) None;
    })) (sym is) (written_back c l p free keeps M h word below))
    (had.stood refl)
