-- Where the words of the head and of the row stand, and who may reach them.
use Rattle.std.proofs.Common.{◌≡◌, ◌≢◌, ◌⊎◌, inl, inr, ⊎_elim, ℕ, zero, suc, ◌+◌, ◌-◌, ◌*◌, ◌<◌, ◌≤◌, Bool, true, false, List, [], ◌∷◌, Contains, refl, sym, ◌∙◌, ap, subst, arith, if◌then◌else◌}
use Rattle.flit_words.specs.declared.layouts.Layout.{Layout}
use Rattle.flit_words.specs.Layouts.{words_of, parts_of, least_buckets, most_buckets, first_row_of, last_row_of}
use Rattle.flit_model.proofs.Membership.{contains_none, contains_cases}
use Rattle.flit_crew.specs.Heaps.{IsOpen, IsForeign, IsWordOf}
use Rattle.flit_crew.proofs.Outside.{foreign_fits}
use Rattle.flit_one_key.specs.Steps.{IsSmall, key_word, value_word}
use Rattle.flit_one_key_crew.specs.OneKeyCrew.{Words_of, IsOut}

module _ (l : Layout) (small : IsSmall l) where
  pub one_bucket : l.buckets ≡ 1
  one_bucket = one l.buckets (subst (λ k. least_buckets k ≤ l.buckets) small.list small.accepted.least_bucket)
      (subst (λ k. l.buckets ≤ most_buckets k) small.list small.accepted.most_bucket)
    where
      one : (b : ℕ) → 1 ≤ b → b ≤ 1 → b ≡ 1
      one b i j = omega (arith, i, j)

  pub last_row : last_row_of l ≡ 1
  last_row = ap (λ k. l.rows + (first_row_of k - 1)) small.list ∙ one l.rows small.row
    where
      one : (r : ℕ) → r ≡ 1 → r + (1 - 1) ≡ 1
      one r e = omega (arith, e)

  words_are : (c : ℕ) → l.buckets + parts_of l.kind * last_row_of l + c ≡ 3 + c
  words_are c = ap (λ k. l.buckets + parts_of k * last_row_of l + c) small.list ∙ three l.buckets (last_row_of l) c one_bucket last_row
    where
      three : (b r c : ℕ) → b ≡ 1 → r ≡ 1 → b + 2 * r + c ≡ 3 + c
      three b r c i j = omega (arith, i, j)

  pub key_at : key_word l ≡ 1
  key_at = ap (λ k. l.buckets + parts_of k * (1 - 1) + 0) small.list ∙ one l.buckets one_bucket
    where
      one : (b : ℕ) → b ≡ 1 → b + 2 * (1 - 1) + 0 ≡ 1
      one b e = omega (arith, e)

  pub value_at : value_word l ≡ 3
  value_at = words_are (1 - 1)

  pub few_words : 3 ≤ words_of l
  few_words = subst (λ n. 3 ≤ n) (sym (words_are (if l.values then last_row_of l else 0))) (more (if l.values then last_row_of l else 0))
    where
      more : (c : ℕ) → 3 ≤ 3 + c
      more c = omega arith

  pub below : (w : ℕ) → w < 3 → w < words_of l
  below w lt = less w (words_of l) lt few_words
    where
      less : (w n : ℕ) → w < 3 → 3 ≤ n → w < n
      less w n i j = omega (arith, i, j)

  pub key_within : key_word l < words_of l
  key_within = below (key_word l) (omega (arith, key_at))

  pub link_within : key_word l + 1 < words_of l
  link_within = below (key_word l + 1) (omega (arith, key_at))

  pub key_other : key_word l ≢ 0
  key_other e = absurd (omega (arith, key_at, e))

  pub link_other : key_word l + 1 ≢ 0
  link_other e = absurd (omega (arith, e))

  pub value_other : value_word l ≢ 0
  value_other e = absurd (omega (arith, value_at, e))

  valued : l.values ≡ true → words_of l ≡ 4
  valued v = words_are (if l.values then last_row_of l else 0) ∙ ap (λ b. 3 + (if b then last_row_of l else 0)) v ∙ ap (λ r. 3 + r) last_row

  unvalued : l.values ≡ false → words_of l ≡ 3
  unvalued v = words_are (if l.values then last_row_of l else 0) ∙ ap (λ b. 3 + (if b then last_row_of l else 0)) v

  pub value_within : l.values ≡ true → value_word l < words_of l
  value_within v = let n = valued v in omega (arith, n, value_at)

  part_word : (part : ℕ) → part < 2 → IsWordOf l 1 (1 + part)
  part_word part lt = inl (
    part,
    subst (λ k. part < parts_of k) (sym small.list) lt,
    sym (ap (λ k. l.buckets + parts_of k * (1 - 1) + part) small.list
        ∙ one l.buckets part one_bucket),
  )
    where
      one : (b c : ℕ) → b ≡ 1 → b + 2 * (1 - 1) + c ≡ 1 + c
      one b c e = omega (arith, e)

  -- the words of the row
  pub key_of_row : IsWordOf l 1 (key_word l)
  key_of_row = subst (IsWordOf l 1) (sym key_at) (part_word 0 (omega arith))

  pub link_of_row : IsWordOf l 1 (key_word l + 1)
  link_of_row = subst (IsWordOf l 1) (ap (λ n. n + 1) (sym key_at)) (part_word 1 (omega arith))

  pub value_of_row : l.values ≡ true → IsWordOf l 1 (value_word l)
  value_of_row v = inr (v, refl)

  -- each word but the head is one of them
  pub row_has : (w : ℕ) → w < words_of l → w ≢ 0 → IsWordOf l 1 w
  row_has zero lt other = absurd (other refl)
  row_has (suc zero) lt other = part_word 0 (omega arith)
  row_has (suc (suc zero)) lt other = part_word 1 (omega arith)
  row_has (suc (suc (suc zero))) lt other = by_values l.values refl
    where
      by_values : (b : Bool) → l.values ≡ b → IsWordOf l 1 3
      by_values true v = inr (v, sym value_at)
      by_values false v = absurd (past (words_of l) lt (unvalued v))
        where
          past : (n : ℕ) → 3 < n → n ≡ 3 → ⊥
          past n i e = omega (arith, i, e)
  row_has (suc (suc (suc (suc w)))) lt other = absurd (by_values l.values refl)
    where
      four : (n : ℕ) → suc (suc (suc (suc w))) < n → n ≡ 4 → ⊥
      four n i e = omega (arith, i, e)

      three : (n : ℕ) → suc (suc (suc (suc w))) < n → n ≡ 3 → ⊥
      three n i e = omega (arith, i, e)

      by_values : (b : Bool) → l.values ≡ b → ⊥
      by_values true v = four (words_of l) lt (valued v)
      by_values false v = three (words_of l) lt (unvalued v)

  -- the head is of no row
  head_of_none : (row : ℕ) → IsWordOf l row 0 → ⊥
  head_of_none row (inl k) = first l.buckets (parts_of l.kind * (row - 1)) k.0 one_bucket k.2
    where
      first : (b x c : ℕ) → b ≡ 1 → 0 ≡ b + x + c → ⊥
      first b x c e i = omega (arith, e, i)
  head_of_none row (inr k) = first l.buckets (parts_of l.kind * last_row_of l) (row - 1) one_bucket k.1
    where
      first : (b x c : ℕ) → b ≡ 1 → 0 ≡ b + x + c → ⊥
      first b x c e i = omega (arith, e, i)

  module _ (free : List ℕ) (h : Words_of) where
    pub head_open : IsOpen l free h 0
    head_open = record {
      within = below 0 (omega arith);
      given = λ row c is. absurd (head_of_none row is);
      ours = λ row f is. head_of_none row is;
    }

    -- everybody may reach the words of a row that is out
    pub out_opens : (free ≡ []) ⊎ (free ≡ 1 ∷ []) → IsOut l free h → (w : ℕ) → w < words_of l → IsOpen l free h w
    out_opens pool out w lt = record {
      within = lt;
      given = λ row c is. let same = only row c in subst (Contains h.given) same (out.0 (subst (Contains free) (sym same) c));
      ours = λ row f is. out.1 (subst (IsForeign l free h.opening) (sym (only_foreign row f)) f);
    }
      where
        only : (row : ℕ) → Contains free row → 1 ≡ row
        only row c = ⊎_elim (λ e. absurd (contains_none row (subst (λ xs. Contains xs row) e c)))
            (λ e. ⊎_elim (λ q. q) (λ n. absurd (contains_none row n)) (contains_cases 1 [] row (subst (λ xs. Contains xs row) e c))) pool

        one : (r n : ℕ) → 1 ≤ r → r ≤ n → n ≡ 1 → 1 ≡ r
        one r n i j e = omega (arith, i, j, e)

        only_foreign : (row : ℕ) → IsForeign l free h.opening row → 1 ≡ row
        only_foreign row f = let fit = foreign_fits l free h.opening row f in one row (last_row_of l) fit.0 fit.1 last_row

    -- and a row is out where everybody may reach one of its words
    pub open_out : (w : ℕ) → IsOpen l free h w → w ≢ 0 → IsOut l free h
    open_out w o other = (λ c. o.given 1 c (row_has w o.within other), λ f. o.ours 1 f (row_has w o.within other))
