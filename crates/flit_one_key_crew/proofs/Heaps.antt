-- What is kept true of the head and the row, over changes of shut words, write-backs and won exchanges.
use Rattle.std.proofs.Common.{◌≡◌, ◌≢◌, ◌⊎◌, inl, inr, ⊎_elim, ℕ, ◌+◌, ◌<◌, ◌≤◌, eqb, Bool, true, false, List, [], ◌∷◌, ◌++◌, length, slice_index, slice_set, Some, refl, sym, ◌∙◌, ap, subst, arith, append-nil, if◌then◌else◌}
use Rattle.std.proofs.lemmas.List.{length-set, get_or-set_same, get_or-set_other}
use Rattle.std.proofs.lemmas.Bool.{eqb-true, eqb-false}
use Rattle.flit_words.specs.declared.layouts.Layout.{Layout}
use Rattle.flit_words.specs.Layouts.{words_of}
use Rattle.flit_words.specs.Words.{version_of, value_of, is_tagged}
use Rattle.flit_model.specs.Settling.{Progress, settles}
use Rattle.flit_model.specs.declared.calls.Entry.{Entry}
use Rattle.flit_crew.specs.Heaps.{at_word, at_shadow, waits_at, written, won, IsOpen, IsAhead, AreAlike}
use Rattle.flit_one_key.specs.Steps.{IsSmall, key_word, value_word}
use Rattle.flit_one_key_crew.specs.OneKeyCrew.{map_if, link_to, linked_after}
use Rattle.flit_one_key_crew.specs.OneKeyCrew.{Words_of, row_key, row_link, row_value, linked_first, version_first, updates, IsHead, IsStory, HasLinked, IsOut, Kept, Later}
use Rattle.flit_one_key_crew.proofs.RowWords.{few_words, key_within, link_within, value_within, key_other, link_other, value_other, below, out_opens, open_out}
use Rattle.flit_one_key_crew.proofs.Waits.{settled_here, made_none, made_one, length_one, comes_to_wait}

-- the head has linked the row, or nothing was made over a head that links none
pub linked_or_none : (h : Words_of) → HasLinked h ⊎ ((linked_first h ≡ false) × (updates h ≡ []))
linked_or_none h = by_first (linked_first h) refl (updates h) refl
  where
    by_first : (b : Bool) → linked_first h ≡ b → (es : List Entry) → updates h ≡ es → HasLinked h ⊎ ((linked_first h ≡ false) × (updates h ≡ []))
    by_first true e es is = inl (inl e)
    by_first false e [] is = inr (e, is)
    by_first false e (x ∷ es) is = inl (inr (subst (λ xs. 1 ≤ length xs) (sym is) (omega arith)))

-- the row has the same words
pub record SameRow (l : Layout) (h k : Words_of) : Type 0 where
  pub key : row_key l k ≡ row_key l h
  pub link : row_link l k ≡ row_link l h
  pub value : row_value l k ≡ row_value l h

pub same_row : (l : Layout) → IsSmall l → (h k : Words_of) → ((w : ℕ) → w < words_of l → w ≢ 0 → at_word k w ≡ at_word h w) → SameRow l h k
same_row l small h k same = record {
  key = ap value_of (same (key_word l) (key_within l small) (key_other l small));
  link = ap value_of (same (key_word l + 1) (link_within l small) (link_other l small));
  value = by_values l.values refl;
}
  where
    by_values : (b : Bool) → l.values ≡ b → row_value l k ≡ row_value l h
    by_values true v = ap (λ b. if b then value_of (at_word k (value_word l)) else 0) v
        ∙ ap value_of (same (value_word l) (value_within l small v) (value_other l small))
        ∙ sym (ap (λ b. if b then value_of (at_word h (value_word l)) else 0) v)
    by_values false v = ap (λ b. if b then value_of (at_word k (value_word l)) else 0) v
        ∙ sym (ap (λ b. if b then value_of (at_word h (value_word l)) else 0) v)

module _ (l : Layout) (small : IsSmall l) (free : List ℕ) (h : Words_of) (is : Kept l free h) where
  some_words : 0 < length h.words
  some_words = subst (λ n. 0 < n) (sym is.words) (below l small 0 (omega arith))

  some_shadows : 0 < length h.shadows
  some_shadows = subst (λ n. 0 < n) (sym is.shadows) (below l small 0 (omega arith))

  -- ---- words that nobody may reach

  blind_here : (words shadows : List ℕ) → let k : Words_of = record h { words = words; shadows = shadows } in
      length words ≡ length h.words → length shadows ≡ length h.shadows → ((w : ℕ) → w < length shadows → is_tagged (slice_index shadows w) ≡ false) →
      ((w : ℕ) → IsOpen l free h w → slice_index words w ≡ at_word h w) → ((w : ℕ) → IsOpen l free h w → slice_index shadows w ≡ at_shadow h w) →
      Kept l free k × Later l free h k
  blind_here words shadows many shadows_many untagged words_same shadows_same = (
    record {
      words = many ∙ is.words;
      shadows = shadows_many ∙ is.shadows;
      untagged = λ w lt. untagged w (subst (λ n. w < n) (sym (shadows_many ∙ is.shadows)) lt);
      bare = ap is_tagged head ∙ is.bare;
      story = ⊎_elim (λ q. let s = same (is.out q) in
          subst (λ v. IsStory (row_key l k) v (linked_first h) (updates h)) (sym s.value)
          (subst (λ x. IsStory x (row_value l h) (linked_first h) (updates h)) (sym s.key) is.story))
          (λ q. subst (IsStory (row_key l k) (row_value l k) (linked_first h)) (sym q.1) tt) (linked_or_none h);
      content = is.content ∙ ⊎_elim (λ q. let s = same (is.out q) in
          ap (λ x. map_if (linked_first h) x (row_value l h)) (sym s.key) ∙ ap (map_if (linked_first h) (row_key l k)) (sym s.value))
          (λ q. ap (λ b. map_if b (row_key l h) (row_value l h)) q.0 ∙ sym (ap (λ b. map_if b (row_key l k) (row_value l k)) q.0)) (linked_or_none h);
      head = subst (λ x. IsHead h x (length (updates h))) (sym head) is.head;
      shadow = subst (λ x. IsHead h x (length h.progress.settled)) (sym (shadows_same 0 open_head)) is.shadow;
      waits = is.waits;
      pool = is.pool;
      out = is.out;
      sealed = λ q. let s = same (is.out q) in (subst (λ x. x ≤ 4294967292) (sym s.key) (is.sealed q).0, s.link ∙ (is.sealed q).1);
      rest = λ out w lt other. words_same w (opens out w lt) ∙ is.rest out w lt other ∙ sym (shadows_same w (opens out w lt));
    },
    record {
      opening = refl;
      grown = ([], sym (append-nil (updates h)));
      key = λ out. (same out).key;
      value = λ out. (same out).value;
    },
  )
    where
      k : Words_of
      k = record h { words = words; shadows = shadows }

      open_head : IsOpen l free h 0
      open_head = Rattle.flit_one_key_crew.proofs.RowWords.head_open l small free h

      opens : IsOut l free h → (w : ℕ) → w < words_of l → IsOpen l free h w
      opens = out_opens l small free h is.pool

      head : slice_index words 0 ≡ at_word h 0
      head = words_same 0 open_head

      same : IsOut l free h → SameRow l h k
      same out = same_row l small h k (λ w lt other. words_same w (opens out w lt))

  pub blind : (k : Words_of) → AreAlike l free h k → Kept l free k × Later l free h k
  blind k a = subst (λ x. Kept l free x × Later l free h x) (sym same)
      (blind_here k.words k.shadows a.number a.shadows_number a.untagged a.words a.shadows)
    where
      same : k ≡ record h { words = k.words; shadows = k.shadows }
      same = ap (λ x. record k { opening = x }) a.opening ∙ ap (λ x. record k { opening = h.opening; progress = x }) a.progress
          ∙ ap (λ x. record k { opening = h.opening; progress = h.progress; given = x }) a.given
          ∙ ap (λ x. record k { opening = h.opening; progress = h.progress; given = h.given; ghost = x }) a.ghost

  -- ---- a write-back

  -- what everybody may reach and is ahead is the head
  ahead_head : (w : ℕ) → IsOpen l free h w → IsAhead h w → w ≡ 0
  ahead_head w o ahead = by_test (eqb w 0) refl
    where
      resting : (x y : ℕ) → x ≡ y → version_of x ≡ version_of y + 1 → ⊥
      resting x y e q = next (version_of x) (version_of y) (ap version_of e) q
        where
          next : (a b : ℕ) → a ≡ b → a ≡ b + 1 → ⊥
          next a b i j = omega (arith, i, j)

      by_test : (t : Bool) → eqb w 0 ≡ t → w ≡ 0
      by_test true e = eqb-true w 0 e
      by_test false e = let other = eqb-false w 0 e in
          absurd (resting (at_word h w) (at_shadow h w) (is.rest (open_out l small free h w o other) w o.within other) ahead)

  settles_head : (e : Entry) → h.progress.waiting ≡ Rattle.std.specs.FinMap.insert Rattle.std.specs.FinMap.empty 0 e →
      Kept l free (written h 0 h.ghost) × Later l free h (written h 0 h.ghost)
  settles_head e waits = (
    record {
      words = is.words;
      shadows = length-set h.shadows 0 (at_word h 0) ∙ is.shadows;
      untagged = λ w lt. by_word w lt (eqb w 0) refl;
      bare = is.bare;
      story = subst (IsStory (row_key l h) (row_value l h) (linked_first h)) (sym s.same) is.story;
      content = is.content;
      head = subst (IsHead h (at_word h 0)) (ap length (sym s.same)) is.head;
      shadow = subst (λ x. IsHead h x (length q.settled)) (sym (get_or-set_same h.shadows 0 (at_word h 0) 0 some_shadows))
          (subst (IsHead h (at_word h 0)) (ap length (sym (s.all ∙ s.same))) is.head);
      waits = inl s.none;
      pool = is.pool;
      out = λ k. is.out (before k);
      sealed = λ k. is.sealed (before k);
      rest = λ out w lt other. is.rest out w lt other ∙ sym (get_or-set_other h.shadows 0 w (at_word h 0) 0 other);
    },
    record { opening = refl; grown = ([], s.same ∙ sym (append-nil (updates h))); key = λ out. refl; value = λ out. refl },
  )
    where
      q : Progress
      q = settles h.progress 0 (waits_at h 0)

      s : Rattle.flit_one_key_crew.proofs.Waits.IsSettled h.progress q
      s = settled_here h.progress e waits

      before : HasLinked (written h 0 h.ghost) → HasLinked h
      before k = ⊎_elim (λ e. inl e) (λ m. inr (subst (λ xs. 1 ≤ length xs) s.same m)) k

      by_word : (w : ℕ) → w < words_of l → (t : Bool) → eqb w 0 ≡ t → is_tagged (slice_index (slice_set h.shadows 0 (at_word h 0)) w) ≡ false
      by_word w lt true e = ap (λ x. is_tagged (slice_index (slice_set h.shadows 0 (at_word h 0)) x)) (eqb-true w 0 e)
          ∙ ap is_tagged (get_or-set_same h.shadows 0 (at_word h 0) 0 some_shadows) ∙ is.bare
      by_word w lt false e = ap is_tagged (get_or-set_other h.shadows 0 w (at_word h 0) 0 (eqb-false w 0 e)) ∙ is.untagged w lt

  pub settles_word : (w : ℕ) → IsOpen l free h w → IsAhead h w → (ghost : Unit {0}) × Kept l free (written h w ghost) × Later l free h (written h w ghost)
  settles_word w o ahead = (h.ghost, both.0, both.1)
    where
      at_head : w ≡ 0
      at_head = ahead_head w o ahead

      -- where nothing waits, the head isn't ahead
      stuck : (word shadow first m n : ℕ) → word ≡ first + m → shadow ≡ first + n → m ≡ n → word ≡ shadow + 1 → ⊥
      stuck word shadow first m n a b c d = omega (arith, a, b, c, d)

      by_wait : Rattle.flit_one_key_crew.specs.OneKeyCrew.MayWait h.progress → Kept l free (written h 0 h.ghost) × Later l free h (written h 0 h.ghost)
      by_wait (inl none) = absurd (stuck (version_of (at_word h 0)) (version_of (at_shadow h 0)) (version_first h) (length (updates h))
          (length h.progress.settled) is.head.counts is.shadow.counts (ap length (made_none h.progress none)) (subst (IsAhead h) at_head ahead))
      by_wait (inr one) = settles_head one.0 one.1

      both : Kept l free (written h w h.ghost) × Later l free h (written h w h.ghost)
      both = subst (λ x. Kept l free (written h x h.ghost) × Later l free h (written h x h.ghost)) (sym at_head) (by_wait is.waits)

  -- ---- an exchange of the head that is won, to a word that links the row or not

  module _ (to : ℕ) (e : Entry) (rows : List ℕ) (ghost : Unit {0}) where
    abbrev pub after_win : Words_of
    after_win = won h 0 to (Some e) rows ghost

    pub record WinsSo : Type 0 where
      pub none : h.progress.waiting ≡ Rattle.std.specs.FinMap.empty
      pub bare : is_tagged to ≡ false
      pub head : IsHead h to (length (updates h) + 1)
      pub story : IsStory (row_key l h) (row_value l h) (linked_first h) (updates h ++ e ∷ [])
      pub sealed : (row_key l h ≤ 4294967292) × (row_link l h ≡ 0)
      pub out : IsOut l free after_win
      pub rest : (w : ℕ) → w < words_of l → w ≢ 0 → at_word h w ≡ at_shadow h w

    pub wins_head : WinsSo → Kept l free after_win × Later l free h after_win
    wins_head so = (
      record {
        words = length-set h.words 0 to ∙ is.words;
        shadows = is.shadows;
        untagged = is.untagged;
        bare = ap is_tagged head ∙ so.bare;
        story = subst (IsStory (row_key l after_win) (row_value l after_win) (linked_first h)) (sym c.made_is)
            (subst (λ v. IsStory (row_key l after_win) v (linked_first h) (updates h ++ e ∷ [])) (sym row.value)
            (subst (λ x. IsStory x (row_value l h) (linked_first h) (updates h ++ e ∷ [])) (sym row.key) so.story));
        content = is.content ∙ ap (λ x. map_if (linked_first h) x (row_value l h)) (sym row.key)
            ∙ ap (map_if (linked_first h) (row_key l after_win)) (sym row.value);
        head = subst (λ x. IsHead h x (length (updates after_win))) (sym head)
            (subst (IsHead h to) (sym (length_one (updates h) e) ∙ ap length (sym c.made_is)) so.head);
        shadow = is.shadow;
        waits = inr (e, c.waiting);
        pool = is.pool;
        out = λ q. so.out;
        sealed = λ q. (subst (λ x. x ≤ 4294967292) (sym row.key) so.sealed.0, row.link ∙ so.sealed.1);
        rest = λ q w lt other. get_or-set_other h.words 0 w to 0 other ∙ so.rest w lt other;
      },
      record { opening = refl; grown = (e ∷ [], c.made_is); key = λ q. row.key; value = λ q. row.value },
    )
      where
        c : Rattle.flit_one_key_crew.proofs.Waits.ComesToWait h.progress after_win.progress e
        c = comes_to_wait h.progress e so.none

        head : at_word after_win 0 ≡ to
        head = get_or-set_same h.words 0 to 0 some_words

        row : SameRow l h after_win
        row = same_row l small h after_win (λ w lt other. get_or-set_other h.words 0 w to 0 other)
