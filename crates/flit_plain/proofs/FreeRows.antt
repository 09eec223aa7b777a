-- The numbers of a range that aren't in a list.
use Rattle.std.proofs.Common.{◌≡◌, ℕ, zero, suc, ◌+◌, ◌-◌, ◌≤◌, ◌==◌, Bool, true, false, cond, List, [], ◌∷◌, ◌++◌, filter, refl, sym, ap, ◌∙◌, arith}
use Rattle.std.specs.List.{list_any, range_with_len}
use Rattle.std.proofs.lemmas.List.{append-nil}
use Rattle.flit_plain.specs.Finding.{is_absent}

filter_step : (b : Bool) (x : ℕ) (xs ys zs : List ℕ) → xs ≡ ys ++ zs → cond b (x ∷ xs) xs ≡ cond b (x ∷ ys) ys ++ zs
filter_step true x xs ys zs e = ap (λ s. x ∷ s) e
filter_step false x xs ys zs e = e

-- one more number at the end of a range
pub filter-range_more : (keep : ℕ → Bool) (first n next : ℕ) → first + n ≡ next →
    filter keep (range_with_len first (suc n)) ≡ filter keep (range_with_len first n) ++ cond (keep next) (next ∷ []) []
filter-range_more keep first zero next e =
    let same : first ≡ next = omega (arith, e) in
    ap (λ k. cond (keep k) (k ∷ []) []) same
filter-range_more keep first (suc n) next e =
    filter_step (keep first) first _ _ _ (filter-range_more keep (first + 1) n next (omega (arith, e)))

-- a walk over the numbers from first on that keeps those that are absent
module _ (ns kept later : List ℕ) (first n next : ℕ) (from : first ≤ n) (above : next ≡ n + 1)
    (so_far : kept ≡ filter (is_absent ns) (range_with_len first (n - first))) where
  grows : filter (is_absent ns) (range_with_len first (next - first)) ≡ kept ++ cond (is_absent ns n) (n ∷ []) []
  grows =
      let more : next - first ≡ suc (n - first) = omega arith in
      ap (λ k. filter (is_absent ns) (range_with_len first k)) more
      ∙ filter-range_more (is_absent ns) first (n - first) n (omega arith)
      ∙ ap (λ xs. xs ++ cond (is_absent ns n) (n ∷ []) []) (sym so_far)

  pub absent_kept : list_any (λ k. k == n) ns ≡ false → later ≡ kept ++ n ∷ [] → later ≡ filter (is_absent ns) (range_with_len first (next - first))
  absent_kept absent e = e ∙ sym (grows ∙ rw absent refl)

  pub present_left_out : list_any (λ k. k == n) ns ≡ true → later ≡ kept → later ≡ filter (is_absent ns) (range_with_len first (next - first))
  present_left_out present e = e ∙ sym (grows ∙ rw present (append-nil kept))
