-- What one event leaves: a word that doesn't hold what it held was at rest and is ahead, and of no kind of updates there are
-- fewer.
use Rattle.std.proofs.Common.{◌≡◌, ◌⊎◌, inl, inr, ⊎_elim, ℕ, ◌+◌, ◌≤◌, ◌<◌, ◌==◌, nat_lt, Bool, true, false, cond, List, [], ◌∷◌, ◌++◌, count_by, length, Option, Some, None, refl, sym, ◌∙◌, ap, arith, if◌then◌else◌}
use Rattle.std.proofs.lemmas.Bool.{eqb-true, eq-eqb}
use Rattle.std.proofs.lemmas.Option.{none-some}
use Rattle.std.proofs.lemmas.List.{get_or-set_same, append_assoc}
use Rattle.std.specs.FinMap as fin
use Rattle.flit_words.specs.declared.layouts.Layout.{Layout}
use Rattle.flit_words.specs.Words.{bare_of, version_of}
use Rattle.flit_model.specs.States.{State, word_at, shadow_at, is_ahead}
use Rattle.flit_model.specs.Effects.{after, with_word}
use Rattle.flit_model.specs.Settling.{Progress, takes_effect, settles, progress_after}
use Rattle.flit_model.specs.declared.events.Event.{Event}
use Rattle.flit_model.specs.declared.events.Event.TheVariants.{Load, ReadTag, Raise, Lower, Exchange, Persist, Store, Draw}
use Rattle.flit_model.specs.declared.calls.Entry.{Entry}
use Rattle.flit_model.proofs.Counting.{count_by-append}
use Rattle.flit_place.specs.Tags.{Place}
use Rattle.flit_place.proofs.WordTags.{version-bare}
use Rattle.flit_structure.specs.declared.workers.Doing.{Doing}
use Rattle.flit_structure.specs.declared.workers.Doing.TheVariants.{Idle, Busy, Evicting}
use Rattle.flit_structure.specs.declared.workers.Worker.{Worker}
use Rattle.flit_structure.specs.Moments.{Moment, with_workers, update_of, made}
use Rattle.flit_structure.specs.Meanings.{Meaning, asked_by, asks, effect_by, effect_in, moment_after, making}
use Rattle.flit_structure.specs.Lawful.{IsNearShadow}
use Rattle.flit_crew.specs.Heaps.{heap_of}
use Rattle.flit_crew.specs.Crews.{Crew, Holds}
use Rattle.flit_crew.specs.CrewMeanings.{Bounds, crew_meaning}
use Rattle.flit_crew.specs.Obligations.{Keeps}
use Rattle.flit_crew.proofs.WritingBack.{word_bare}
use Rattle.flit_crew.proofs.Updating.{waits_between, gone_between}
use Rattle.flit_crew.proofs.Accounting.{count_split}
use Rattle.flit_crew.proofs.Asking.{ToNext, effects}
use Rattle.flit_crew.proofs.Telling.{allowed_by, replaces_by}
use Rattle.flit_crew.proofs.Happening.{happens, is_near}
use Rattle.flit_crew_bounds.specs.Bounding.{Passes}

-- ---- how many updates of a kind there are

module _ (P : Entry → Bool) where
  split : (settled front back waited : List Entry) (e : Entry) → waited ≡ front ++ e ∷ back →
      count_by P (settled ++ waited) ≡ cond (P e) 1 0 + count_by P (settled ++ (front ++ back))
  split settled front back waited e is =
      sums (count_by P settled) (count_by P front) (count_by P back) (cond (P e) 1 0) (count_by P (settled ++ waited)) (count_by P waited)
      (count_by P (settled ++ (front ++ back))) (count_by P (front ++ back))
      (count_by-append P settled waited) (ap (count_by P) is ∙ count_split P front back e)
      (count_by-append P settled (front ++ back)) (count_by-append P front back)
    where
      sums : (s f b c t w u v : ℕ) → t ≡ s + w → w ≡ c + (f + b) → u ≡ s + v → v ≡ f + b → t ≡ c + u
      sums s f b c t w u v e d i j = omega (arith, e, d, i, j)

  -- one that is settled counts as before
  made_settled : (q : Progress) (w : ℕ) (o : Option Entry) → fin.get q.waiting w ≡ o → count_by P (made (settles q w o)) ≡ count_by P (made q)
  made_settled q w None is = refl
  made_settled q w (Some e) is =
      let r = gone_between q.waiting w e is in
      let left : count_by P ((q.settled ++ e ∷ []) ++ fin.values (fin.remove q.waiting w)) ≡ count_by P (q.settled ++ (e ∷ (r.front ++ r.back))) =
      ap (count_by P) (append_assoc q.settled (e ∷ []) (fin.values (fin.remove q.waiting w)) ∙ ap (λ xs. q.settled ++ e ∷ xs) r.was) in
      left ∙ split q.settled [] (r.front ++ r.back) (e ∷ (r.front ++ r.back)) e refl
      ∙ sym (split q.settled r.front r.back (fin.values q.waiting) e r.is)

  -- one more waits
  made_won : (q : Progress) (w : ℕ) (e : Entry) → fin.get q.waiting w ≡ None → count_by P (made q) ≤ count_by P (made (takes_effect q w (Some e)))
  made_won q w e none =
      let r = waits_between q.waiting w e none in
      more (count_by P (made q)) (cond (P e) 1 0) (count_by P (made (takes_effect q w (Some e))))
      (split q.settled r.front r.back (fin.values (fin.insert q.waiting w e)) e r.is
      ∙ ap (λ xs. cond (P e) 1 0 + count_by P (q.settled ++ xs)) (sym r.was))
    where
      more : (a c b : ℕ) → b ≡ c + a → a ≤ b
      more a c b e = omega (arith, e)

  same_le : (a b : ℕ) → b ≡ a → a ≤ b
  same_le a b e = omega (arith, e)

  exchange_grows : (q : Progress) (w : ℕ) (t : Bool) (o : Option Entry) → (t ≡ true → (e : Entry) → o ≡ Some e → fin.get q.waiting w ≡ None) →
      count_by P (made q) ≤ count_by P (made (if t then takes_effect q w o else q))
  exchange_grows q w true None none = same_le (count_by P (made q)) (count_by P (made q)) refl
  exchange_grows q w true (Some e) none = made_won q w e (none refl e refl)
  exchange_grows q w false o none = same_le (count_by P (made q)) (count_by P (made q)) refl

  persist_grows : (q : Progress) (w : ℕ) (t : Bool) → count_by P (made q) ≤ count_by P (made (if t then settles q w (fin.get q.waiting w) else q))
  persist_grows q w true = same_le (count_by P (made q)) (count_by P (made (settles q w (fin.get q.waiting w)))) (made_settled q w (fin.get q.waiting w) refl)
  persist_grows q w false = same_le (count_by P (made q)) (count_by P (made q)) refl

  pub event_grows : (q : Progress) (s : State) (e : Event) (o : Option Entry) →
      ((word from to : ℕ) (x : Entry) → e ≡ Exchange word from to → o ≡ Some x → word_at s word ≡ from → fin.get q.waiting word ≡ None) →
      count_by P (made q) ≤ count_by P (made (progress_after q s e o))
  event_grows q s (Load word) o none = same_le (count_by P (made q)) (count_by P (made q)) refl
  event_grows q s (ReadTag slot) o none = same_le (count_by P (made q)) (count_by P (made q)) refl
  event_grows q s (Raise slot) o none = same_le (count_by P (made q)) (count_by P (made q)) refl
  event_grows q s (Lower slot) o none = same_le (count_by P (made q)) (count_by P (made q)) refl
  event_grows q s (Exchange word from to) o none = exchange_grows q word (word_at s word == from) o
      (λ t x is. none word from to x refl is (eqb-true (word_at s word) from t))
  event_grows q s (Persist word kept) o none = persist_grows q word (nat_lt (shadow_at s word) kept)
  event_grows q s (Store word to) o none = same_le (count_by P (made q)) (count_by P (made q)) refl
  event_grows q s Draw o none = same_le (count_by P (made q)) (count_by P (made q)) refl

-- ---- an event changes a word or its shadow, not both

exchange_one : (s : State) (word to w : ℕ) (t : Bool) →
    (word_at (if t then with_word s word to else s) w ≡ word_at s w) ⊎ (shadow_at (if t then with_word s word to else s) w ≡ shadow_at s w)
exchange_one s word to w true = inr refl
exchange_one s word to w false = inl refl

changes_one : (s : State) (e : Event) (w : ℕ) → (word_at (after s e) w ≡ word_at s w) ⊎ (shadow_at (after s e) w ≡ shadow_at s w)
changes_one s (Load word) w = inl refl
changes_one s (ReadTag slot) w = inl refl
changes_one s (Raise slot) w = inl refl
changes_one s (Lower slot) w = inl refl
changes_one s (Exchange word from to) w = exchange_one s word to w (word_at s word == from)
changes_one s (Persist word kept) w = inl refl
changes_one s (Store word to) w = inr refl
changes_one s Draw w = inl refl

-- so a word that doesn't hold what it held is ahead, where it found its word persistent
ahead_then : (s : State) (e : Event) (w : ℕ) → IsNearShadow (word_at (after s e) w) (shadow_at (after s e) w) →
    (bare_of (word_at (after s e) w) ≡ bare_of (word_at s w)) ⊎ (bare_of (word_at s w) ≡ shadow_at s w) →
    (bare_of (word_at (after s e) w) ≡ bare_of (word_at s w))
    ⊎ ((bare_of (word_at s w) ≡ shadow_at s w) × (version_of (word_at (after s e) w) ≡ version_of (shadow_at (after s e) w) + 1))
ahead_then s e w near (inl same) = inl same
ahead_then s e w near (inr rest) = by_change (changes_one s e w) near.near
  where
    by_change : (word_at (after s e) w ≡ word_at s w) ⊎ (shadow_at (after s e) w ≡ shadow_at s w) →
        (bare_of (word_at (after s e) w) ≡ shadow_at (after s e) w) ⊎ (is_ahead (word_at (after s e) w) (shadow_at (after s e) w) ≡ true) →
        (bare_of (word_at (after s e) w) ≡ bare_of (word_at s w))
        ⊎ ((bare_of (word_at s w) ≡ shadow_at s w) × (version_of (word_at (after s e) w) ≡ version_of (shadow_at (after s e) w) + 1))
    by_change (inl same) k = inl (ap bare_of same)
    by_change (inr same) (inl near) = inl (near ∙ same ∙ sym rest)
    by_change (inr same) (inr ahead) = inr (rest, eqb-true (version_of (word_at (after s e) w)) (version_of (shadow_at (after s e) w) + 1) ahead)

-- an Exchange to the next version that is won finds nothing that is ahead
pub won_word : (m : State) (word from to : ℕ) → word < length m.words → word_at m word ≡ from → word_at (after m (Exchange word from to)) word ≡ to
won_word m word from to within won =
    ap (λ b. word_at (cond b (with_word m word to) m) word) (eq-eqb (word_at m word) from won) ∙ get_or-set_same m.words word to 0 within

not_ahead : (m : State) (word from to : ℕ) → word < length m.words → word_at m word ≡ from → version_of to ≡ version_of from + 1 →
    (bare_of (word_at (after m (Exchange word from to)) word) ≡ bare_of (word_at m word)) ⊎ (bare_of (word_at m word) ≡ shadow_at m word) →
    version_of (word_at m word) ≡ version_of (shadow_at m word) + 1 → ⊥
not_ahead m word from to within won next (inl same) ahead =
    later (version_of to) (version_of from) next
    (sym (version-bare to) ∙ ap (λ x. version_of (bare_of x)) (sym (won_word m word from to within won)) ∙ ap (λ x. version_of x) same
    ∙ version-bare (word_at m word) ∙ ap (λ x. version_of x) won)
  where
    later : (a b : ℕ) → a ≡ b + 1 → a ≡ b → ⊥
    later a b h i = omega (arith, h, i)
not_ahead m word from to within won next (inr persistent) ahead =
    later (version_of (word_at m word)) (version_of (shadow_at m word)) ahead
    (sym (version-bare (word_at m word)) ∙ ap (λ x. version_of x) persistent)
  where
    later : (a b : ℕ) → a ≡ b + 1 → a ≡ b → ⊥
    later a b h i = omega (arith, h, i)

-- ---- one event of a worker

module _ {G Op : Type 0} (c : Crew G Op) (l : Layout) (p : Place) (free : List ℕ) (bounds : Bounds Op) (keeps : Keeps c l p free) where
  abbrev meaning : Meaning Op
  meaning = crew_meaning c l p free bounds

  module _ (M : Moment Op) (a : List (Worker Op)) (u : Worker Op) (b : List (Worker Op)) (e : Event) (q : asked_by meaning u ≡ Some e)
      (holds : Holds c l p free (with_workers M (a ++ u ∷ b))) where
    abbrev pub N : Moment Op
    N = moment_after meaning M e a u b

    pub holds_then : Holds c l p free N
    holds_then = happens c l p free bounds keeps (Some u.name) (with_workers M (a ++ u ∷ b)) N (making M a u b e q) holds

    -- what takes effect is an Exchange to the next version
    next_version : (name number : ℕ) (d : Doing Op) → Holds c l p free (with_workers M (a ++ record { name = name; number = number; doing = d } ∷ b)) →
        (word from to : ℕ) (x : Entry) → asks meaning d ≡ Some (Exchange word from to) → effect_in meaning name number d ≡ Some x →
        version_of to ≡ version_of from + 1
    next_version name number (Idle hand) k word from to x asked effect = absurd (none-some x effect)
    next_version name number (Evicting m) k word from to x asked effect = absurd (none-some x effect)
    next_version name number (Busy op call begun) k word from to x asked effect =
        let r : ToNext (meaning.asked op) = effects c l p free keeps M a name number b op call begun k (has_effect (meaning.effect op) effect) in
        same_event r.word r.from r.to word from to (sym r.asks ∙ asked) r.higher
      where
        has_effect : (t : Bool) → (if t then Some (update_of name number call) else None) ≡ Some x → t ≡ true
        has_effect true q = refl
        has_effect false q = absurd (none-some x q)

        same_event : (w f t word from to : ℕ) → Some (Exchange w f t) ≡ Some (Exchange word from to) → version_of t ≡ version_of f + 1 →
            version_of to ≡ version_of from + 1
        same_event w f t word from to q n =
            let sf : f ≡ from = cc in
            let st : t ≡ to = cc in
            ap (λ v. version_of v) (sym st) ∙ n ∙ ap (λ v. version_of v + 1) sf

    none_waits : (word from to : ℕ) (x : Entry) → e ≡ Exchange word from to → effect_by meaning u ≡ Some x → word_at M.state word ≡ from →
        fin.get M.progress.waiting word ≡ None
    none_waits word from to x is effect won = by_entry (fin.get M.progress.waiting word) refl
      where
        asked : asked_by meaning u ≡ Some (Exchange word from to)
        asked = q ∙ ap Some is

        by_entry : (o : Option Entry) → fin.get M.progress.waiting word ≡ o → o ≡ None
        by_entry None k = refl
        by_entry (Some d) k = absurd (not_ahead M.state word from to
            (allowed_by c l p free bounds keeps M a u b (Exchange word from to) asked holds) won
            (next_version u.name u.number u.doing holds word from to x asked effect)
            (replaces_by c l p free bounds keeps M a u b (Exchange word from to) word asked holds)
            (sym (ap version_of (word_bare M.state.words word) ∙ version-bare (word_at M.state word)) ∙ (holds.history.waits word d k).1))

    pub passes_then : Passes (heap_of (with_workers M (a ++ u ∷ b)) holds.given holds.ghost) (heap_of N holds_then.given holds_then.ghost)
    passes_then = record {
      opening = refl;
      words = λ w. ⊎_elim
          (λ k. inl (word_bare N.state.words w ∙ k ∙ sym (word_bare M.state.words w)))
          (λ k. inr (word_bare M.state.words w ∙ k.0, ap version_of (word_bare N.state.words w) ∙ version-bare (word_at N.state w) ∙ k.1))
          (ahead_then M.state e w (is_near c l p free bounds N w holds_then) (replaces_by c l p free bounds keeps M a u b e w q holds));
      made = λ P. event_grows P M.progress M.state e (effect_by meaning u) none_waits;
    }
