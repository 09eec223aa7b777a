-- How many pairs the rows of a list image have, and one row more.
use Rattle.std.proofs.Common.{◌≡◌, ℕ, ◌+◌, ◌≤◌, not, List, [], ◌∷◌, ◌++◌, length, filter, ap, arith}
use Rattle.std.proofs.lemmas.List.{length-append, length-map}
use Rattle.std.proofs.lemmas.List.Elements.{filter-append}
use Rattle.std.proofs.lemmas.List.Sums.{length-filter, count_by-le-length}
use Rattle.flit_words.specs.declared.layouts.Layout.{Layout}
use Rattle.flit_model.specs.Lists.{is_removed, pair_in, list_pairs}

module _ (l : Layout) (image : List ℕ) where
  as_left : (rows : List ℕ) → length (list_pairs l image rows) ≡ length (filter (λ r. not (is_removed l image r)) rows)
  as_left rows = length-map (filter (λ r. not (is_removed l image r)) rows) (pair_in l image)

  pub pairs_more : (rows : List ℕ) (row : ℕ) →
      length (list_pairs l image (rows ++ row ∷ [])) ≡ length (list_pairs l image rows) + length (list_pairs l image (row ∷ []))
  pairs_more rows row =
      let left : List ℕ → List ℕ = filter (λ r. not (is_removed l image r)) in
      let joined = ap (λ (rs : List ℕ). length rs) (filter-append (λ r. not (is_removed l image r)) rows (row ∷ [])) in
      omega (arith, as_left (rows ++ row ∷ []), as_left rows, as_left (row ∷ []), joined, length-append (left rows) (left (row ∷ [])))

  -- no more than the rows
  pub pairs_at_most : (rows : List ℕ) → length (list_pairs l image rows) ≤ length rows
  pairs_at_most rows =
      omega (arith, as_left rows, length-filter (λ r. not (is_removed l image r)) rows, count_by-le-length (λ r. not (is_removed l image r)) rows)
