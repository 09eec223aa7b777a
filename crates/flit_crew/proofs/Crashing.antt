-- Each crash image: it is the shadows after write-backs, each of which keeps all that holds. So what a structure shows of
-- the shadows alone is true of every crash image.
use Rattle.std.proofs.Common.{◌≡◌, ◌≢◌, ℕ, zero, suc, ◌+◌, ◌<◌, ◌≤◌, ◌==◌, ◌&&◌, ◌||◌, Bool, true, false, cond, List, [], ◌∷◌, ◌++◌, length, map, slice_index, Option, Some, None, refl, sym, ◌∙◌, ap, subst, arith, if◌then◌else◌}
use Rattle.std.proofs.lemmas.Bool.{eqb-true, eq-eqb}
use Rattle.std.specs.List.{range_with_len}
use Rattle.std.specs.List.{AllByRecursion, list_any}
use Rattle.std.specs.FinMap as fin
use Rattle.std.specs.FinMap.{get-retain_keys, nat_cmp-IsAntisymmetric, same_map}
use Rattle.std.specs.Cmp.{nat_cmp_total}
use Rattle.flit_words.specs.declared.layouts.Layout.{Layout}
use Rattle.flit_words.specs.Layouts.{words_of}
use Rattle.flit_words.specs.Words.{bare_of, version_of}
use Rattle.flit_model.specs.Lists.{IsRisingFrom}
use Rattle.flit_model.specs.States.{State, word_at, shadow_at, is_ahead}
use Rattle.flit_model.specs.Effects.{after, after_all}
use Rattle.flit_model.specs.Settling.{progress_after, progress_after_all, taken_updates}
use Rattle.flit_model.specs.CrashImages.{crash_image, crash_word, write_back, IsAheadAt}
use Rattle.flit_model.specs.declared.events.Event.TheVariants.{Persist}
use Rattle.flit_model.specs.declared.calls.Entry.{Entry}
use Rattle.flit_model.proofs.CrashLaws.{taken_by_write_backs, all_at_word}
use Rattle.flit_model.proofs.SettlingLaws.{settled_by_write_backs}
use Rattle.flit_model.proofs.Elements.{all_weaker, all-range}
use Rattle.flit_place.specs.Tags.{Place}
use Rattle.flit_place.proofs.WordTags.{version-bare}
use Rattle.flit_structure.specs.Moments.{Moment}
use Rattle.flit_structure.specs.Lawful.{IsRecoverable}
use Rattle.flit_crew.specs.Heaps.{heap_of}
use Rattle.flit_crew.specs.Crews.{Crew, Holds}
use Rattle.flit_crew.specs.Obligations.{Keeps}
use Rattle.flit_crew.proofs.WritingBack.{written_back, word_bare}

abbrev in_words : List ℕ → ℕ → Bool
in_words words w = list_any (λ v. v == w) words

-- ---- the words that a crash picks and that are ahead, rising

abbrev chosen : (picks : ℕ → Bool) (first n : ℕ) → List ℕ
chosen picks first zero = []
chosen picks first (suc n) = if picks first then first ∷ chosen picks (suc first) n else chosen picks (suc first) n

chosen_rises : (picks : ℕ → Bool) (first low n : ℕ) → low ≤ first → IsRisingFrom low (chosen picks first n)
chosen_rises picks first low zero le = tt
chosen_rises picks first low (suc n) le = by_test (picks first) (chosen_rises picks (suc first) (suc first) n (omega arith))
    (chosen_rises picks (suc first) low n (omega (arith, le)))
  where
    by_test : (t : Bool) → IsRisingFrom (suc first) (chosen picks (suc first) n) → IsRisingFrom low (chosen picks (suc first) n) →
        IsRisingFrom low (if t then first ∷ chosen picks (suc first) n else chosen picks (suc first) n)
    by_test true a b = (le, a)
    by_test false a b = b

chosen_picked : (picks : ℕ → Bool) (first n : ℕ) → AllByRecursion (λ w. (picks w ≡ true) × (w < first + n)) (chosen picks first n)
chosen_picked picks first zero = tt
chosen_picked picks first (suc n) = by_test (picks first) refl (all_weaker (λ w. (picks w ≡ true) × (w < suc first + n))
    (λ w. (picks w ≡ true) × (w < first + suc n)) (λ w h. (h.0, less w first n h.1)) (chosen picks (suc first) n) (chosen_picked picks (suc first) n))
  where
    less : (w f n : ℕ) → w < suc f + n → w < f + suc n
    less w f n h = omega (arith, h)

    here : (f n : ℕ) → f < f + suc n
    here f n = omega arith

    by_test : (t : Bool) → picks first ≡ t → AllByRecursion (λ w. (picks w ≡ true) × (w < first + suc n)) (chosen picks (suc first) n) →
        AllByRecursion (λ w. (picks w ≡ true) × (w < first + suc n)) (if t then first ∷ chosen picks (suc first) n else chosen picks (suc first) n)
    by_test true q rest = ((q, here first n), rest)
    by_test false q rest = rest

in_chosen : (picks : ℕ → Bool) (first n w : ℕ) → first ≤ w → w < first + n → picks w ≡ true → in_words (chosen picks first n) w ≡ true
in_chosen picks first zero w le lt p = absurd (none first w le lt)
  where
    none : (f w : ℕ) → f ≤ w → w < f + 0 → ⊥
    none f w a b = omega (arith, a, b)
in_chosen picks first (suc n) w le lt p = by_word (first == w) refl (λ other. in_chosen picks (suc first) n w (next first w le other) (less w first n lt) p)
  where
    less : (w f n : ℕ) → w < f + suc n → w < suc f + n
    less w f n h = omega (arith, h)

    next : (f w : ℕ) → f ≤ w → f ≢ w → suc f ≤ w
    next f w a b = omega (arith, a, b)

    by_test : (t same : Bool) → picks first ≡ t → (first == w) ≡ same → (same ≡ true → t ≡ true) →
        (same ≡ false → in_words (chosen picks (suc first) n) w ≡ true) →
        in_words (if t then first ∷ chosen picks (suc first) n else chosen picks (suc first) n) w ≡ true
    by_test true true q s picked rest = ap (λ b. b || in_words (chosen picks (suc first) n) w) s
    by_test true false q s picked rest = ap (λ b. b || in_words (chosen picks (suc first) n) w) s ∙ rest refl
    by_test false true q s picked rest = absurd (clash (picked refl))
      where
        clash : false ≡ true → ⊥
        clash e = cc
    by_test false false q s picked rest = rest refl

    by_word : (same : Bool) → (first == w) ≡ same → (first ≢ w → in_words (chosen picks (suc first) n) w ≡ true) →
        in_words (if picks first then first ∷ chosen picks (suc first) n else chosen picks (suc first) n) w ≡ true
    by_word same s rest = by_test (picks first) same refl s (λ t. ap picks (eqb-true first w (s ∙ t)) ∙ p)
        (λ f. rest (λ e. clash same (sym s ∙ eq-eqb first w e) f))
      where
        clash : (b : Bool) → b ≡ true → b ≡ false → ⊥
        clash b t f = cc

-- ---- write-backs of any number of words

module _ {G Op : Type 0} (c : Crew G Op) (l : Layout) (p : Place) (free : List ℕ) (keeps : Keeps c l p free) where
  abbrev afterwards : Moment Op → State → List ℕ → Moment Op
  afterwards M m words = record M {
    state = after_all M.state (map (write_back m) words);
    progress =
        progress_after_all M.progress M.state (map (write_back m) words);
  }

  pub all_written : (m : State) (words : List ℕ) (M : Moment Op) → M.state.words ≡ m.words → AllByRecursion (λ w. w < words_of l) words → Holds c l p free M →
      Holds c l p free (afterwards M m words)
  all_written m [] M same below h = h
  all_written m (w ∷ ws) M same below h =
      let N : Moment Op = record M { state = after M.state (write_back m w); progress = progress_after M.progress M.state (write_back m w) None } in
      let one : Holds c l p free N = subst (λ e. Holds c l p free (record M { state = after M.state e; progress = progress_after M.progress M.state e None }))
      (ap (λ xs. Persist w (bare_of (slice_index xs w))) same)
      (written_back c l p free keeps M h w below.0) in
      all_written m ws N same below.1 one

  -- an image that takes the values ahead of some words that rise
  pub crash_of_words : (M : Moment Op) (words : List ℕ) → IsRisingFrom 0 words → AllByRecursion (IsAheadAt M.state) words →
      AllByRecursion (λ w. w < words_of l) words → Holds c l p free M →
      IsRecoverable l M.opening.content (crash_image (in_words words) M.state) (M.progress.settled ++ taken_updates M.progress (in_words words))
  crash_of_words M words rising ahead below h =
      let k = all_written M.state words M refl below h in
      subst (λ image. IsRecoverable l M.opening.content image (M.progress.settled ++ taken_updates M.progress (in_words words)))
      (sym (taken_by_write_backs M.state words ahead))
      (subst (λ es. IsRecoverable l M.opening.content (after_all M.state (map (write_back M.state) words)).shadows es)
      (settled_by_write_backs M.progress M.state words rising ahead)
      (keeps.recovers (heap_of (afterwards M M.state words) k.given k.ghost) k.kept))

  -- what waits, waits at a word that is ahead
  pub waits_ahead : (M : Moment Op) (h : Holds c l p free M) (word : ℕ) (e : Entry) → fin.get M.progress.waiting word ≡ Some e → IsAheadAt M.state word
  waits_ahead M h word e is =
      let w = h.history.waits word e is in record {
        within = subst (λ n. word < n) (sym (h.sound.suits.whole ∙ h.words)) w.0.within;
        ahead = eq-eqb (version_of (word_at M.state word)) (version_of (shadow_at M.state word) + 1)
            (sym (ap version_of (word_bare M.state.words word) ∙ version-bare (word_at M.state word)) ∙ w.1);
      }

  -- any choice: what it takes is the words that it picks and that are ahead
  pub crash : (M : Moment Op) (picks : ℕ → Bool) → Holds c l p free M →
      IsRecoverable l M.opening.content (crash_image picks M.state) (M.progress.settled ++ taken_updates M.progress picks)
  crash M picks h =
      subst (λ image. IsRecoverable l M.opening.content image (M.progress.settled ++ taken_updates M.progress picks)) image_same
      (subst (λ es. IsRecoverable l M.opening.content (crash_image (in_words words) M.state) (M.progress.settled ++ es)) taken_same
      (crash_of_words M words (chosen_rises takes 0 0 (length M.state.shadows) (least 0)) ahead below h))
    where
      waits : (word : ℕ) (e : Entry) → fin.get M.progress.waiting word ≡ Some e → IsAheadAt M.state word
      waits = waits_ahead M h

      takes : ℕ → Bool
      takes w = picks w && is_ahead (word_at M.state w) (shadow_at M.state w)

      words : List ℕ
      words = chosen takes 0 (length M.state.shadows)

      least : (n : ℕ) → 0 ≤ n
      least n = omega arith

      second : (x y : Bool) → (x && y) ≡ true → y ≡ true
      second true y e = e
      second false y e = absurd (cc)

      plus : (w n : ℕ) → w < 0 + n → w < n
      plus w n lt = omega (arith, lt)

      plus_zero : (w n : ℕ) → w < n → w < 0 + n
      plus_zero w n lt = omega (arith, lt)

      ahead : AllByRecursion (IsAheadAt M.state) words
      ahead = all_weaker (λ w. (takes w ≡ true) × (w < 0 + length M.state.shadows)) (IsAheadAt M.state)
          (λ w k. record { within = plus w (length M.state.shadows) k.1; ahead = second (picks w) (is_ahead (word_at M.state w) (shadow_at M.state w)) k.0 })
          words (chosen_picked takes 0 (length M.state.shadows))

      below : AllByRecursion (λ w. w < words_of l) words
      below = all_weaker (λ w. (takes w ≡ true) × (w < 0 + length M.state.shadows)) (λ w. w < words_of l)
          (λ w k. subst (λ n. w < n) (h.sound.suits.whole ∙ h.words) (plus w (length M.state.shadows) k.1)) words
          (chosen_picked takes 0 (length M.state.shadows))

      -- a word that is ahead is among the words exactly where it is picked
      picked : (w : ℕ) → w < length M.state.shadows → is_ahead (word_at M.state w) (shadow_at M.state w) ≡ true → in_words words w ≡ picks w
      picked w lt is = by_pick (picks w) refl (in_words words w) refl
        where
          both_true : (x y : Bool) → x ≡ true → y ≡ true → (x && y) ≡ true
          both_true x y a b = cc

          by_pick : (x : Bool) → picks w ≡ x → (y : Bool) → in_words words w ≡ y → y ≡ x
          by_pick true a y b = sym b ∙ in_chosen takes 0 (length M.state.shadows) w (least w) (plus_zero w (length M.state.shadows) lt)
              (both_true (picks w) (is_ahead (word_at M.state w) (shadow_at M.state w)) a is)
          by_pick false a true b = absurd (clash (takes w) (all_at_word (λ v. takes v ≡ true) words w
              (all_weaker (λ v. (takes v ≡ true) × (v < 0 + length M.state.shadows)) (λ v. takes v ≡ true) (λ v k. k.0) words
              (chosen_picked takes 0 (length M.state.shadows))) b) (ap (λ z. z && is_ahead (word_at M.state w) (shadow_at M.state w)) a))
            where
              clash : (z : Bool) → z ≡ true → z ≡ false → ⊥
              clash z t f = cc
          by_pick false a false b = refl

      word_same : (w : ℕ) → w < length M.state.shadows → crash_word (in_words words) M.state w ≡ crash_word picks M.state w
      word_same w lt = by_ahead (is_ahead (word_at M.state w) (shadow_at M.state w)) refl
        where
          either : (x y : Bool) (i j : ℕ) → (x && false) ≡ (y && false)
          either true true i j = refl
          either true false i j = refl
          either false true i j = refl
          either false false i j = refl

          by_ahead : (t : Bool) → is_ahead (word_at M.state w) (shadow_at M.state w) ≡ t → crash_word (in_words words) M.state w ≡ crash_word picks M.state w
          by_ahead true q = ap (λ b. if b && is_ahead (word_at M.state w) (shadow_at M.state w) then bare_of (word_at M.state w) else shadow_at M.state w)
              (picked w lt q)
          by_ahead false q = ap (λ t. if in_words words w && t then bare_of (word_at M.state w) else shadow_at M.state w) q
              ∙ ap (λ b. if b then bare_of (word_at M.state w) else shadow_at M.state w) (either (in_words words w) (picks w) 0 0)
              ∙ sym (ap (λ t. if picks w && t then bare_of (word_at M.state w) else shadow_at M.state w) q)

      map_same : (first n : ℕ) → ((w : ℕ) → w < first + n → crash_word (in_words words) M.state w ≡ crash_word picks M.state w) →
          map (crash_word (in_words words) M.state) (range_with_len first n) ≡ map (crash_word picks M.state) (range_with_len first n)
      map_same first n all = each (range_with_len first n) (all-range (λ w. w < first + n) first n (λ w le lt. lt))
        where
          each : (ws : List ℕ) → AllByRecursion (λ w. w < first + n) ws → map (crash_word (in_words words) M.state) ws ≡ map (crash_word picks M.state) ws
          each [] k = refl
          each (w ∷ ws) k = ap (λ x. x ∷ map (crash_word (in_words words) M.state) ws) (all w k.0) ∙ ap (λ xs. crash_word picks M.state w ∷ xs) (each ws k.1)

      image_same : crash_image (in_words words) M.state ≡ crash_image picks M.state
      image_same = map_same 0 (length M.state.shadows) (λ w lt. word_same w (plus w (length M.state.shadows) lt))

      got : (t : ℕ → Bool) (q : ℕ) → fin.get (fin.retain_keys M.progress.waiting t) q ≡ cond (t q) (fin.get M.progress.waiting q) None
      got t q = get-retain_keys M.progress.waiting t q (λ x s. ap t (sym (nat_cmp-IsAntisymmetric q x s)))

      never : (b d : Bool) (o : Option Entry) → o ≡ None → cond b o None ≡ cond d o None
      never true true o e = refl
      never true false o e = e
      never false true o e = sym e
      never false false o e = refl

      taken_same : taken_updates M.progress (in_words words) ≡ taken_updates M.progress picks
      taken_same = ap fin.values (same_map nat_cmp_total nat_cmp-IsAntisymmetric (fin.retain_keys M.progress.waiting (in_words words))
          (fin.retain_keys M.progress.waiting picks)
          (λ q. got (in_words words) q ∙ by_get q (fin.get M.progress.waiting q) refl ∙ sym (got picks q)))
        where
          by_get : (q : ℕ) (o : Option Entry) → fin.get M.progress.waiting q ≡ o →
              cond (in_words words q) (fin.get M.progress.waiting q) None ≡ cond (picks q) (fin.get M.progress.waiting q) None
          by_get q None e = never (in_words words q) (picks q) (fin.get M.progress.waiting q) e
          by_get q (Some x) e = let a = waits q x e in ap (λ b. cond b (fin.get M.progress.waiting q) None) (picked q a.within a.ahead)
