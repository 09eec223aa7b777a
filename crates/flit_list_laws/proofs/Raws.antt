-- The link in a raw word, with its tag or without, and the links that are written.
use Rattle.std.proofs.Common.{◌≡◌, ◌≢◌, ℕ, ◌+◌, ◌*◌, ◌/◌, ◌%◌, ◌^◌, ◌==◌, ◌<◌, ◌≤◌, true, false, refl, sym, ap, ◌∙◌, arith}
use Rattle.std.proofs.lemmas.Bool.{ne_eqb, eq-eqb}
use Rattle.flit_words.specs.declared.links.Link.{Link}
use Rattle.flit_words.specs.Links.{link_of, link_value}
use Rattle.flit_words.specs.Words.{version_of, value_of, bare_of}
use Rattle.flit_pv.specs.Drafts.{next_bare}
use Rattle.flit_list_steps.specs.Steps.{row_of as raw_row_of, is_marked as raw_is_marked, to_row, to_row_marked}
use Rattle.flit_list_heap.specs.Links.{row_of, is_marked, link_held}
use Rattle.flit_list_heap.specs.Moves.{plain_link, marked_link}

pub value_bare : (raw : ℕ) → value_of (bare_of raw) ≡ value_of raw
value_bare raw = omega arith

pub raw_row : (raw : ℕ) → raw_row_of raw ≡ row_of (bare_of raw)
unfolding row_of
raw_row raw = ap (λ v. (link_of v).row) (sym (value_bare raw))

pub raw_mark : (raw : ℕ) → raw_is_marked raw ≡ is_marked (bare_of raw)
unfolding is_marked
raw_mark raw = ap (λ v. (link_of v).mark) (sym (value_bare raw))

pub row_small : (raw : ℕ) → raw_row_of raw < 2 ^ 22
row_small raw = omega arith

pub to_row_small : (r : ℕ) → r < 2 ^ 22 → to_row r < 2 ^ 32
to_row_small r b = omega (arith, b)

pub to_row_marked_small : (r by : ℕ) → r < 2 ^ 22 → by ≤ 64 → to_row_marked r by < 2 ^ 32
to_row_marked_small r by b i = omega (arith, b, i)

pub next_value : (old value : ℕ) → value < 2 ^ 32 → value_of (next_bare old value) ≡ value
next_value old value small = rest (version_of old) value small
  where
    rest : (v x : ℕ) → x < 2 ^ 32 → ((v + 1) * 2 ^ 33 + x) % 2 ^ 32 ≡ x
    rest v x le = omega (arith, le)

-- ---- the links of the values that are written

plain_row : (r : ℕ) → r < 2 ^ 22 → (0 * 2 ^ 24 + 4 * r + 2 * 0 + 0) / 4 % 2 ^ 22 ≡ r
plain_row r b = omega (arith, b)

plain_mark : (r : ℕ) → ((0 * 2 ^ 24 + 4 * r + 2 * 0 + 0) % 2 == 1) ≡ false
plain_mark r = ne_eqb ((0 * 2 ^ 24 + 4 * r + 2 * 0 + 0) % 2) 1 (omega arith)

plain_frozen : (r : ℕ) → ((0 * 2 ^ 24 + 4 * r + 2 * 0 + 0) / 2 % 2 == 1) ≡ false
plain_frozen r = ne_eqb ((0 * 2 ^ 24 + 4 * r + 2 * 0 + 0) / 2 % 2) 1 (omega arith)

plain_name : (r : ℕ) → r < 2 ^ 22 → (0 * 2 ^ 24 + 4 * r + 2 * 0 + 0) / 2 ^ 24 ≡ 0
plain_name r b = omega (arith, b)

plain_of_value : (r : ℕ) → r < 2 ^ 22 → link_of (link_value (plain_link r)) ≡ plain_link r
plain_of_value r b = rw (plain_row r b, plain_mark r, plain_frozen r, plain_name r b) refl

pub plain_held : (old r : ℕ) → r < 2 ^ 22 → link_held (next_bare old (to_row r)) ≡ plain_link r
plain_held old r b = ap link_of (next_value old (to_row r) (to_row_small r b)) ∙ plain_of_value r b

marked_row : (by r : ℕ) → r < 2 ^ 22 → (by * 2 ^ 24 + 4 * r + 2 * 0 + 1) / 4 % 2 ^ 22 ≡ r
marked_row by r b = omega (arith, b)

marked_mark : (by r : ℕ) → ((by * 2 ^ 24 + 4 * r + 2 * 0 + 1) % 2 == 1) ≡ true
marked_mark by r = eq-eqb ((by * 2 ^ 24 + 4 * r + 2 * 0 + 1) % 2) 1 (omega arith)

marked_frozen : (by r : ℕ) → ((by * 2 ^ 24 + 4 * r + 2 * 0 + 1) / 2 % 2 == 1) ≡ false
marked_frozen by r = ne_eqb ((by * 2 ^ 24 + 4 * r + 2 * 0 + 1) / 2 % 2) 1 (omega arith)

marked_name : (by r : ℕ) → r < 2 ^ 22 → (by * 2 ^ 24 + 4 * r + 2 * 0 + 1) / 2 ^ 24 ≡ by
marked_name by r b = omega (arith, b)

marked_of_value : (by r : ℕ) → r < 2 ^ 22 → link_of (link_value (marked_link r by)) ≡ marked_link r by
marked_of_value by r b = rw (marked_row by r b, marked_mark by r, marked_frozen by r, marked_name by r b) refl

pub marked_held : (old r by : ℕ) → r < 2 ^ 22 → by ≤ 64 → link_held (next_bare old (to_row_marked r by)) ≡ marked_link r by
marked_held old r by b i = ap link_of (next_value old (to_row_marked r by) (to_row_marked_small r by b i)) ∙ marked_of_value by r b
