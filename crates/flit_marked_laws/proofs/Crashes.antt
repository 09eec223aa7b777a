-- A crash image is the shadows after write-backs; so what the heap keeps besides is true of it.
use Rattle.std.proofs.Common.{◌≡◌, ℕ, ◌+◌, ◌<◌, ◌≤◌, ◌&&◌, Bool, true, false, cond, List, [], ◌∷◌, ◌++◌, length, map, filter, Option, Some, None, refl, sym, ◌∙◌, ap, subst, arith, if◌then◌else◌}
use Rattle.std.proofs.lemmas.Bool.{false≢true}
use Rattle.std.proofs.lemmas.Cmp.{nat_cmp_total}
use Rattle.std.specs.List.{AllByRecursion, range_with_len}
use Rattle.std.specs.FinMap as fin
use Rattle.std.specs.FinMap.{get-retain_keys, nat_cmp-IsAntisymmetric, same_map}
use Rattle.flit_words.specs.declared.layouts.Layout.{Layout}
use Rattle.flit_words.specs.Layouts.{words_of}
use Rattle.flit_words.specs.Words.{bare_of}
use Rattle.flit_model.specs.Lists.{IsRisingFrom}
use Rattle.flit_model.specs.States.{word_at, shadow_at, is_ahead}
use Rattle.flit_model.specs.Effects.{after_all}
use Rattle.flit_model.specs.Settling.{progress_after_all, taken_updates}
use Rattle.flit_model.specs.CrashImages.{crash_image, crash_word, write_back, IsAheadAt}
use Rattle.flit_model.specs.declared.calls.Entry.{Entry}
use Rattle.flit_model.proofs.CrashLaws.{in_words, taken_by_write_backs}
use Rattle.flit_model.proofs.SettlingLaws.{settled_by_write_backs}
use Rattle.flit_model.proofs.Elements.{all-range}
use Rattle.flit_model.proofs.Membership.{contains-filter, contains_filtered, contains-list_any, list_any-contains, contains-range}
use Rattle.flit_model.proofs.Rising.{rising-range, rising-filter_numbers}
use Rattle.flit_place.specs.Tags.{Place}
use Rattle.flit_structure.specs.Moments.{Moment}
use Rattle.flit_crew.proofs.Crashing.{all_written}
use Rattle.flit_list_steps.specs.Operations.{HeldOp}
use Rattle.flit_list_heap.specs.Keeping.{ListHeap}
use Rattle.flit_list_laws.specs.ListCrew.{IsOfLists}
use Rattle.flit_list_structure.specs.ListStructure.{lists}
use Rattle.flit_list_structure.proofs.Lawfulness.{list_lawful}
use Rattle.flit_marked_laws.proofs.Ties.{Besides}
use Rattle.flit_marked_laws.proofs.Lasting.{Stronger, HoldsStronger, keeps}

all_filtered : {X : Type 0} (P : X → Type 0) (p : X → Bool) (xs : List X) → AllByRecursion (λ x. p x ≡ true → P x) xs → AllByRecursion P (filter p xs)
all_filtered P p [] k = tt
all_filtered P p (x ∷ xs) k = by_test (p x) refl (all_filtered P p xs k.1)
  where
    by_test : (t : Bool) → p x ≡ t → AllByRecursion P (filter p xs) → AllByRecursion P (cond t (x ∷ filter p xs) (filter p xs))
    by_test true q rest = (k.0 q, rest)
    by_test false q rest = rest

first_of : (a b : Bool) → (a && b) ≡ true → a ≡ true
first_of true b e = refl
first_of false b e = absurd (false≢true e)

second_of : (a b : Bool) → (a && b) ≡ true → b ≡ true
second_of true b e = e
second_of false b e = absurd (false≢true e)

both_of : (a b : Bool) → a ≡ true → b ≡ true → (a && b) ≡ true
both_of a b i j = cc

never : (a b : Bool) → (a && false) ≡ (b && false)
never true true = refl
never true false = refl
never false true = refl
never false false = refl

module _ (l : Layout) (p : Place) (free : List ℕ) (chains : IsOfLists l) (Q : ListHeap → Type 0) (besides : Besides l p free Q) (M : Moment HeldOp)
    (holds : (lists l p free).holds M) (k : HoldsStronger l p free chains Q M) (picks : ℕ → Bool) where
  abbrev n : ℕ
  n = length M.state.shadows

  abbrev ahead_at : ℕ → Bool
  ahead_at w = is_ahead (word_at M.state w) (shadow_at M.state w)

  abbrev takes : ℕ → Bool
  takes w = picks w && ahead_at w

  abbrev words : List ℕ
  words = filter takes (range_with_len 0 n)

  plus : (w m : ℕ) → w < 0 + m → w < m
  plus w m i = omega (arith, i)

  plus_zero : (w m : ℕ) → w < m → w < 0 + m
  plus_zero w m i = omega (arith, i)

  least : (w : ℕ) → 0 ≤ w
  least w = omega arith

  rising : IsRisingFrom 0 words
  rising = rising-filter_numbers takes 0 (range_with_len 0 n) (rising-range 0 n)

  ahead : AllByRecursion (IsAheadAt M.state) words
  ahead = all_filtered (IsAheadAt M.state) takes (range_with_len 0 n) (all-range (λ w. takes w ≡ true → IsAheadAt M.state w) 0 n
      (λ w low most t. record { within = plus w n most; ahead = second_of (picks w) (ahead_at w) t }))

  size : n ≡ words_of l
  size = ((list_lawful l p free chains).sized M holds).shadows

  below : AllByRecursion (λ w. w < words_of l) words
  below = all_filtered (λ w. w < words_of l) takes (range_with_len 0 n) (all-range (λ w. takes w ≡ true → w < words_of l) 0 n
      (λ w low most t. subst (λ m. w < m) size (plus w n most)))

  -- a word that is ahead is among them exactly where it is picked
  picked : (w : ℕ) → w < n → ahead_at w ≡ true → in_words words w ≡ picks w
  picked w lt is = by_pick (picks w) refl
    where
      by_pick : (t : Bool) → picks w ≡ t → in_words words w ≡ t
      by_pick true q = contains-list_any w words (contains-filter takes (range_with_len 0 n) w (contains-range 0 n w (least w) (plus_zero w n lt))
          (both_of (picks w) (ahead_at w) q is))
      by_pick false q = by_in (in_words words w) refl
        where
          by_in : (t : Bool) → in_words words w ≡ t → t ≡ false
          by_in false e = refl
          by_in true e = absurd (false≢true (sym q
              ∙ first_of (picks w) (ahead_at w) (contains_filtered takes (range_with_len 0 n) w (list_any-contains w words e)).1))

  same_word : (w : ℕ) → w < n → crash_word (in_words words) M.state w ≡ crash_word picks M.state w
  same_word w lt = by_ahead (ahead_at w) refl
    where
      by_ahead : (t : Bool) → ahead_at w ≡ t → crash_word (in_words words) M.state w ≡ crash_word picks M.state w
      by_ahead true q = ap (λ b. if b && ahead_at w then bare_of (word_at M.state w) else shadow_at M.state w) (picked w lt q)
      by_ahead false q = ap (λ t. if in_words words w && t then bare_of (word_at M.state w) else shadow_at M.state w) q
          ∙ ap (λ b. if b then bare_of (word_at M.state w) else shadow_at M.state w) (never (in_words words w) (picks w))
          ∙ sym (ap (λ t. if picks w && t then bare_of (word_at M.state w) else shadow_at M.state w) q)

  mapped : (ws : List ℕ) → AllByRecursion (λ w. w < n) ws → map (crash_word (in_words words) M.state) ws ≡ map (crash_word picks M.state) ws
  mapped [] all = refl
  mapped (w ∷ ws) all = ap (λ x. x ∷ map (crash_word (in_words words) M.state) ws) (same_word w all.0)
      ∙ ap (λ xs. crash_word picks M.state w ∷ xs) (mapped ws all.1)

  image_is : crash_image (in_words words) M.state ≡ crash_image picks M.state
  image_is = mapped (range_with_len 0 n) (all-range (λ w. w < n) 0 n (λ w low most. plus w n most))

  taken_is : taken_updates M.progress (in_words words) ≡ taken_updates M.progress picks
  taken_is = ap fin.values (same_map nat_cmp_total nat_cmp-IsAntisymmetric (fin.retain_keys M.progress.waiting (in_words words))
      (fin.retain_keys M.progress.waiting picks) (λ q. got (in_words words) q ∙ by_entry q (fin.get M.progress.waiting q) refl ∙ sym (got picks q)))
    where
      got : (t : ℕ → Bool) (q : ℕ) → fin.get (fin.retain_keys M.progress.waiting t) q ≡ cond (t q) (fin.get M.progress.waiting q) None
      got t q = get-retain_keys M.progress.waiting t q (λ x s. ap t (sym (nat_cmp-IsAntisymmetric q x s)))

      none : (b d : Bool) (o : Option Entry) → o ≡ None → cond b o None ≡ cond d o None
      none true true o e = refl
      none true false o e = e
      none false true o e = sym e
      none false false o e = refl

      by_entry : (q : ℕ) (o : Option Entry) → fin.get M.progress.waiting q ≡ o →
          cond (in_words words q) (fin.get M.progress.waiting q) None ≡ cond (picks q) (fin.get M.progress.waiting q) None
      by_entry q None e = none (in_words words q) (picks q) (fin.get M.progress.waiting q) e
      by_entry q (Some x) e =
          let at = ((list_lawful l p free chains).waits M q x holds e).0 in
          ap (λ b. cond b (fin.get M.progress.waiting q) None) (picked q at.within at.ahead)

  abbrev pub Crashed : Moment HeldOp
  Crashed = record M {
    state = after_all M.state (map (write_back M.state) words);
    progress = progress_after_all M.progress M.state (map (write_back M.state) words);
  }

  pub crash_holds : HoldsStronger l p free chains Q Crashed
  crash_holds = all_written (Stronger l p free chains Q) l p free (keeps l p free chains Q besides) M.state words M refl below k

  pub crash_shadows : Crashed.state.shadows ≡ crash_image picks M.state
  crash_shadows = sym (taken_by_write_backs M.state words ahead) ∙ image_is

  pub crash_settled : Crashed.progress.settled ≡ M.progress.settled ++ taken_updates M.progress picks
  crash_settled = settled_by_write_backs M.progress M.state words rising ahead ∙ ap (λ es. M.progress.settled ++ es) taken_is
