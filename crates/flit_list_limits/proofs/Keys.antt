-- How many keys there are from a row on, by what is known of the heap: behind a link there are fewer.
use Rattle.std.proofs.Common.{◌≡◌, ◌⊎◌, ⊎_elim, ℕ, ◌+◌, ◌-◌, ◌^◌, ◌==◌, ◌<◌, ◌≤◌, Bool, true, false, List, map, slice_index, refl, sym, ◌∙◌, ap, arith, if◌then◌else◌}
use Rattle.std.proofs.lemmas.Bool.{false≢true, eqb-true, eq-eqb}
use Rattle.flit_words.specs.declared.layouts.Layout.{Layout}
use Rattle.flit_words.specs.declared.limits.TheConstants.{GREATEST_KEY}
use Rattle.flit_words.specs.Layouts.{row_word_of}
use Rattle.flit_words.specs.Words.{bare_of, value_of}
use Rattle.flit_model.specs.Lists.{key_in}
use Rattle.flit_crew.proofs.WritingBack.{word_bare}
use Rattle.flit_list_laws.proofs.Raws.{value_bare}
use Rattle.flit_list_limits.specs.ListLimits.{keys_from}

-- the bare words have the same keys
pub key_bare : (l : Layout) (words : List ℕ) (row : ℕ) → key_in l (map bare_of words) row ≡ key_in l words row
key_bare l words row =
    let word : ℕ = row_word_of l row 0 in
    ap value_of (word_bare words word) ∙ value_bare (slice_index words word)

-- from a row on there are more keys than from one with a greater key, or from none
module _ (l : Layout) (words bare : List ℕ) (same : bare ≡ map bare_of words) where
  key_same : (row : ℕ) → key_in l words row ≡ key_in l bare row
  key_same row = sym (ap (λ xs. key_in l xs row) same ∙ key_bare l words row)

  abbrev count : Bool → ℕ → ℕ
  count none row = if none then 0 else 2 ^ 32 - key_in l words row

  fewer : (row next : ℕ) → key_in l bare row ≤ GREATEST_KEY → (b : Bool) → (b ≡ false → key_in l bare row < key_in l bare next) →
      count b next + 1 ≤ count false row
  fewer row next small true above = none (key_in l words row) (key_in l bare row) (key_same row) small
    where
      none : (x y : ℕ) → x ≡ y → y ≤ GREATEST_KEY → 0 + 1 ≤ 2 ^ 32 - x
      none x y e h = omega (arith, e, h)
  fewer row next small false above = some (key_in l words row) (key_in l bare row) (key_in l words next) (key_in l bare next) (key_same row) (key_same next)
      small (above refl)
    where
      some : (x y u v : ℕ) → x ≡ y → u ≡ v → y ≤ GREATEST_KEY → y < v → 2 ^ 32 - u + 1 ≤ 2 ^ 32 - x
      some x y u v e f h i = omega (arith, e, f, h, i)

  pub keys_fewer : (row next : ℕ) → 1 ≤ row → key_in l bare row ≤ GREATEST_KEY → (next ≡ 0) ⊎ (key_in l bare row < key_in l bare next) →
      keys_from l words next + 1 ≤ keys_from l words row
  keys_fewer row next some small above = by_row (row == 0) refl
    where
      other : (r : ℕ) → 1 ≤ r → r ≡ 0 → ⊥
      other r h e = omega (arith, h, e)

      is_above : (next == 0) ≡ false → key_in l bare row < key_in l bare next
      is_above isnt = ⊎_elim (λ z. absurd (false≢true (sym isnt ∙ eq-eqb next 0 z))) (λ less. less) above

      by_row : (b : Bool) → (row == 0) ≡ b → count (next == 0) next + 1 ≤ count b row
      by_row true e = absurd (other row some (eqb-true row 0 e))
      by_row false e = fewer row next small (next == 0) is_above
