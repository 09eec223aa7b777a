-- The link in a raw word, with its tag or without, and the links that are written.
use Rattle.std.proofs.Common.{◌≡◌, ◌⊎◌, inl, inr, ℕ, ◌+◌, ◌*◌, ◌/◌, ◌%◌, ◌^◌, ◌==◌, ◌&&◌, ◌<◌, ◌≤◌, not, nat_lt, cond, Bool, true, false, List, refl, sym, ap, subst, ◌∙◌, arith, if◌then◌else◌}
use Rattle.std.proofs.lemmas.Bool.{ne_eqb, eq-eqb, false≢true}
use Rattle.flit_words.specs.declared.layouts.Layout.{Layout}
use Rattle.flit_words.specs.Links.{link_value}
use Rattle.flit_words.specs.Words.{version_of, value_of, bare_of}
use Rattle.flit_pv.specs.Drafts.{next_bare}
use Rattle.flit_tree_heap.specs.Edges.{left, right, other, row_of, flag_of, frozen_of, IsPlain}
use Rattle.flit_tree_heap.specs.Views.{TreeHeap, IsLinked}
use Rattle.flit_tree_heap.specs.Kept.{IsKept}
use Rattle.flit_tree_heap.specs.Exchanges.{key_now, side_now}
use Rattle.flit_tree_heap.proofs.Images.{left_at, right_at}
use Rattle.flit_tree_heap.proofs.Rows.{row_range}
use Rattle.flit_tree_steps.specs.Steps.{row_of as raw_row_of, is_flagged, is_frozen, is_plain, side_word, other_word, left_word, right_word}
use Rattle.flit_tree_laws.specs.Knowing.{LeadsTo}

pub value_bare : (raw : ℕ) → value_of (bare_of raw) ≡ value_of raw
value_bare raw = omega arith

row_below : (v : ℕ) → v / 4 < 2 ^ 22 → v / 4 % 2 ^ 22 ≡ v / 4
row_below v b = omega (arith, b)

pub raw_flag : (raw : ℕ) → is_flagged raw ≡ flag_of (bare_of raw)
unfolding flag_of
raw_flag raw = ap (λ v. v % 2 == 1) (sym (value_bare raw))

pub raw_frozen : (raw : ℕ) → is_frozen raw ≡ frozen_of (bare_of raw)
unfolding frozen_of
raw_frozen raw = ap (λ v. v / 2 % 2 == 1) (sym (value_bare raw))

raw_row_small : (raw : ℕ) → row_of (bare_of raw) < 2 ^ 22 → raw_row_of raw ≡ row_of (bare_of raw)
unfolding row_of
raw_row_small raw b = row_below (value_of raw) (subst (λ v. v / 4 < 2 ^ 22) (value_bare raw) b) ∙ ap (λ v. v / 4) (sym (value_bare raw))

pub raw_small : (raw : ℕ) → raw_row_of raw < 2 ^ 22
raw_small raw = omega arith

pub raw_zero : (raw : ℕ) → value_of (bare_of raw) ≡ 0 → raw_row_of raw ≡ 0
raw_zero raw e = ap (λ v. v / 4 % 2 ^ 22) (sym (value_bare raw) ∙ e)

-- no bit, or one
pub plain_from : (raw : ℕ) → is_plain raw ≡ true → IsPlain (bare_of raw)
plain_from raw e = record {
  unflagged = sym (raw_flag raw) ∙ first (is_flagged raw) (is_frozen raw) e;
  unfrozen = sym (raw_frozen raw)
      ∙ second (is_flagged raw) (is_frozen raw) e;
}
  where
    first : (a b : Bool) → (not a && not b) ≡ true → a ≡ false
    first true b q = absurd (false≢true q)
    first false b q = refl

    second : (a b : Bool) → (not a && not b) ≡ true → b ≡ false
    second true b q = absurd (false≢true q)
    second false true q = absurd (false≢true q)
    second false false q = refl

pub bit_from : (raw : ℕ) → is_plain raw ≡ false → flag_of (bare_of raw) ≡ false → frozen_of (bare_of raw) ≡ true
bit_from raw e unflagged = sym (raw_frozen raw) ∙ second (is_flagged raw) (is_frozen raw) (raw_flag raw ∙ unflagged) e
  where
    second : (a b : Bool) → a ≡ false → (not a && not b) ≡ false → b ≡ true
    second true b q r = absurd (false≢true (sym q))
    second false true q r = refl
    second false false q r = absurd (false≢true (sym r))

module _ (l : Layout) (free : List ℕ) (h : TreeHeap) (K : IsKept l free h) where
  pub row_fits : (row : ℕ) → IsLinked l h row → row < 2 ^ 22
  row_fits row i = less row l.rows (row_range l free h K row i).1 K.layout.accepted.most_row
    where
      less : (a b : ℕ) → a ≤ b + 5 → b ≤ 1048575 → a < 2 ^ 22
      less a b i j = omega (arith, i, j)

  pub raw_row : (raw : ℕ) → IsLinked l h (row_of (bare_of raw)) → raw_row_of raw ≡ row_of (bare_of raw)
  raw_row raw i = raw_row_small raw (row_fits (row_of (bare_of raw)) i)

  pub row_some : (row : ℕ) → IsLinked l h row → 1 ≤ row
  row_some row i = less row (row_range l free h K row i).0
    where
      less : (a : ℕ) → 2 ≤ a → 1 ≤ a
      less a i = omega (arith, i)

  -- the edge of a row for a key, by the row's key
  pub side_is : (key row_key row : ℕ) → IsLinked l h row → row_key ≡ key_now l h row → side_word l key row_key row ≡ side_now l h key row
  side_is key row_key row i e = ap (λ k. side_word l key k row) e ∙ by_side (nat_lt key (key_now l h row))
    where
      by_side : (b : Bool) → cond b (left_word l row) (right_word l row) ≡ cond b (left row) (right row)
      by_side true = left_at l K.layout.accepted K.layout.kind row (row_some row i)
      by_side false = right_at l K.layout.accepted K.layout.kind row (row_some row i)

-- it is the left one or the right one
pub side_either : (l : Layout) (h : TreeHeap) (key row : ℕ) → (side_now l h key row ≡ left row) ⊎ (side_now l h key row ≡ right row)
side_either l h key row = by_side (nat_lt key (key_now l h row))
  where
    by_side : (b : Bool) → ((if b then left row else right row) ≡ left row) ⊎ ((if b then left row else right row) ≡ right row)
    by_side true = inl refl
    by_side false = inr refl

pub other_is : (edge : ℕ) → other_word edge ≡ other edge
unfolding other
other_is edge = refl

-- ---- links that are written

pub next_value : (old value : ℕ) → value < 2 ^ 32 → value_of (next_bare old value) ≡ value
next_value old value small = rest (version_of old) value small
  where
    rest : (v x : ℕ) → x < 2 ^ 32 → ((v + 1) * 2 ^ 33 + x) % 2 ^ 32 ≡ x
    rest v x le = omega (arith, le)

-- the value of a link of the tree
abbrev pub tree_link : ℕ → Bool → Bool → ℕ
tree_link row flag frozen = link_value (record { row = row; mark = flag; frozen = frozen; by = 0 })

pub link_small : (row : ℕ) (flag frozen : Bool) → row < 2 ^ 22 → tree_link row flag frozen < 2 ^ 32
link_small row true true b = omega (arith, b)
link_small row true false b = omega (arith, b)
link_small row false true b = omega (arith, b)
link_small row false false b = omega (arith, b)

-- what such a value says
record Says (v row : ℕ) (flag frozen : Bool) : Type 0 where
  row_says : v / 4 ≡ row
  flag_says : (v % 2 == 1) ≡ flag
  frozen_says : (v / 2 % 2 == 1) ≡ frozen

link_says : (row : ℕ) (flag frozen : Bool) → row < 2 ^ 22 → Says (tree_link row flag frozen) row flag frozen
link_says row true true b = record {
  row_says = omega (arith, b);
  flag_says = eq-eqb (tree_link row true true % 2) 1 (omega (arith, b));
  frozen_says = eq-eqb (tree_link row true true / 2 % 2) 1 (omega (arith, b));
}
link_says row true false b = record {
  row_says = omega (arith, b);
  flag_says = eq-eqb (tree_link row true false % 2) 1 (omega (arith, b));
  frozen_says = ne_eqb (tree_link row true false / 2 % 2) 1 (omega (arith, b));
}
link_says row false true b = record {
  row_says = omega (arith, b);
  flag_says = ne_eqb (tree_link row false true % 2) 1 (omega (arith, b));
  frozen_says = eq-eqb (tree_link row false true / 2 % 2) 1 (omega (arith, b));
}
link_says row false false b = record {
  row_says = omega (arith, b);
  flag_says = ne_eqb (tree_link row false false % 2) 1 (omega (arith, b));
  frozen_says = ne_eqb (tree_link row false false / 2 % 2) 1 (omega (arith, b));
}

-- a word with this value leads there
pub word_leads : (word row : ℕ) (flag frozen : Bool) → row < 2 ^ 22 → value_of word ≡ tree_link row flag frozen → LeadsTo word row flag frozen
unfolding row_of flag_of frozen_of
word_leads word row flag frozen b e = record {
  row_is = ap (λ v. v / 4) e ∙ (link_says row flag frozen b).row_says;
  flag_is = ap (λ v. v % 2 == 1) e ∙ (link_says row flag frozen b).flag_says;
  frozen_is = ap (λ v. v / 2 % 2 == 1) e ∙ (link_says row flag frozen b).frozen_says;
}

pub next_leads : (old row : ℕ) (flag frozen : Bool) → row < 2 ^ 22 → LeadsTo (next_bare old (tree_link row flag frozen)) row flag frozen
next_leads old row flag frozen b = word_leads (next_bare old (tree_link row flag frozen)) row flag frozen b
    (next_value old (tree_link row flag frozen) (link_small row flag frozen b))
