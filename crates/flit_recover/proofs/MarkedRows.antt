-- Rows in a row, those of them that weren't reached, and what a mark says.
use Rattle.std.proofs.Common.{◌≡◌, ℕ, zero, suc, ◌+◌, ◌-◌, ◌<◌, ◌≤◌, Bool, true, false, cond, not, List, [], ◌∷◌, ◌++◌, length, filter, slice_index, slice_index_or, sym, ap, ◌∙◌, arith}
use Rattle.std.specs.List.{AllByRecursion, range_with_len}
use Rattle.std.proofs.lemmas.List.{get_or_read, append-nil}
use Rattle.std.proofs.lemmas.List.Elements.{All-from_recursion, All-get_or, filter-append}
use Rattle.flit_recover.specs.ListWalks.{stands_in}
use Rattle.flit_recover.specs.Marks.{AreMarks}

pub range_more : (first n j : ℕ) → first + n ≡ j → range_with_len first (suc n) ≡ range_with_len first n ++ j ∷ []
range_more first zero j e = ap (λ k. k ∷ []) (let same : first ≡ j = omega arith in same)
range_more first (suc n) j e = ap (λ ks. first ∷ ks) (range_more (first + 1) n j (omega arith))

-- one row more
pub rows_more : (first row : ℕ) → first ≤ row → range_with_len first (row + 1 - first) ≡ range_with_len first (row - first) ++ row ∷ []
rows_more first row le =
    let next : row + 1 - first ≡ suc (row - first) = omega arith in
    rw next (range_more first (row - first) row (omega arith))

module _ (rows : List ℕ) where
  -- the rows that weren't reached, from the first to before this one
  abbrev pub rows_left : ℕ → ℕ → List ℕ
  rows_left first row = filter (λ r. not (stands_in rows r)) (range_with_len first (row - first))

  left_more : (first row : ℕ) → first ≤ row → rows_left first (row + 1) ≡ rows_left first row ++ filter (λ r. not (stands_in rows r)) (row ∷ [])
  left_more first row le = ap (filter (λ r. not (stands_in rows r))) (rows_more first row le)
      ∙ filter-append (λ r. not (stands_in rows r)) (range_with_len first (row - first)) (row ∷ [])

  pub left_with : (first row : ℕ) → first ≤ row → stands_in rows row ≡ false → rows_left first (row + 1) ≡ rows_left first row ++ row ∷ []
  left_with first row le new = left_more first row le ∙ ap (λ b. rows_left first row ++ cond (not b) (row ∷ []) []) new

  pub left_without : (first row : ℕ) → first ≤ row → stands_in rows row ≡ true → rows_left first (row + 1) ≡ rows_left first row
  left_without first row le old = left_more first row le ∙ ap (λ b. rows_left first row ++ cond (not b) (row ∷ []) []) old ∙ append-nil (rows_left first row)

-- what a mark says that was read
pub mark_says : (last : ℕ) (marks : List Bool) (rows : List ℕ) (row : ℕ) (b : Bool) → AreMarks last marks rows → row ≤ last → b ≡ slice_index_or marks row b →
    stands_in rows row ≡ b
mark_says last marks rows row b h le read =
    let long = h.long in
    let below : row < length marks = omega arith in
    sym (h.each row le) ∙ sym (get_or_read marks row b below read false)

-- a fact of each number of a list, at a place
pub all_at : (P : ℕ → Type 0) (ns : List ℕ) → AllByRecursion P ns → (k : ℕ) → k < length ns → P (slice_index ns k)
all_at P ns all k below = All-get_or P ns k 0 below (All-from_recursion P ns all)
