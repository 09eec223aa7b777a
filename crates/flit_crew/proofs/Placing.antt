-- Each word is a word of one row at most, and rows of the pool have words of the layout.
use Rattle.std.proofs.Common.{◌≡◌, inl, inr, ℕ, suc, Bool, List, [], ◌∷◌, subst, if◌then◌else◌, ◌+◌, ◌*◌, ◌-◌, ◌<◌, ◌≤◌, sym, ◌∙◌, arith}
use Rattle.std.specs.Prelude.{Contains}
use Rattle.std.specs.List.{AllByRecursion}
use Rattle.flit_words.specs.declared.layouts.Layout.{Layout}
use Rattle.flit_words.specs.declared.layouts.Kind.{Kind}
use Rattle.flit_words.specs.declared.layouts.Kind.TheVariants.{List as List_kind, Hash, Tree}
use Rattle.flit_words.specs.Layouts.{parts_of, last_row_of, words_of, row_word_of, value_word_of}
use Rattle.flit_model.specs.Lists.{IsRisingFrom}
use Rattle.flit_model.proofs.Elements.{all_weaker, all_contained}
use Rattle.flit_crew.specs.Heaps.{IsWordOf}
use Rattle.flit_crew.specs.Accounts.{IsPool}

row_row : (k : Kind) (b q r x y : ℕ) → 1 ≤ q → 1 ≤ r → x < parts_of k → y < parts_of k → b + parts_of k * (q - 1) + x ≡ b + parts_of k * (r - 1) + y → q ≡ r
row_row List_kind b q r x y i j m n e = omega (arith, i, j, m, n, e)
row_row Hash b q r x y i j m n e = omega (arith, i, j, m, n, e)
row_row Tree b q r x y i j m n e = omega (arith, i, j, m, n, e)

row_value : (k : Kind) (b q r x last : ℕ) → 1 ≤ q → q ≤ last → x < parts_of k → b + parts_of k * (q - 1) + x ≡ b + parts_of k * last + (r - 1) → ⊥
row_value List_kind b q r x last i j m e = omega (arith, i, j, m, e)
row_value Hash b q r x last i j m e = omega (arith, i, j, m, e)
row_value Tree b q r x last i j m e = omega (arith, i, j, m, e)

value_value : (b q r : ℕ) → 1 ≤ q → 1 ≤ r → b + (q - 1) ≡ b + (r - 1) → q ≡ r
value_value b q r i j e = omega (arith, i, j, e)

pub same_row : (l : Layout) (q r w : ℕ) → 1 ≤ q → q ≤ last_row_of l → 1 ≤ r → r ≤ last_row_of l → IsWordOf l q w → IsWordOf l r w → q ≡ r
same_row l q r w one fits least most (inl x) (inl y) = row_row l.kind l.buckets q r x.0 y.0 one least x.1 y.1 (sym x.2 ∙ y.2)
same_row l q r w one fits least most (inl x) (inr y) = absurd (row_value l.kind l.buckets q r x.0 (last_row_of l) one fits x.1 (sym x.2 ∙ y.1))
same_row l q r w one fits least most (inr x) (inl y) = absurd (row_value l.kind l.buckets r q y.0 (last_row_of l) least most y.1 (sym y.2 ∙ x.1))
same_row l q r w one fits least most (inr x) (inr y) = value_value (l.buckets + parts_of l.kind * last_row_of l) q r one least (sym x.1 ∙ y.1)

-- ---- rows of the pool, and their words

at_least : (low : ℕ) (xs : List ℕ) → IsRisingFrom low xs → AllByRecursion (λ x. low ≤ x) xs
at_least low [] rising = tt
at_least low (x ∷ xs) rising = (rising.0, all_weaker (λ y. suc x ≤ y) (λ y. low ≤ y) (λ y h. through low x y rising.0 h) xs (at_least (suc x) xs rising.1))
  where
    through : (a x y : ℕ) → a ≤ x → suc x ≤ y → a ≤ y
    through a x y i j = omega (arith, i, j)

pub pool_fit : (l : Layout) (free : List ℕ) → IsPool l free → (row : ℕ) → Contains free row → (1 ≤ row) × (row ≤ last_row_of l)
pool_fit l free pool row has = (
  all_contained (λ x. 1 ≤ x) free row (at_least 1 free pool.rising) has,
  all_contained (λ x. x ≤ last_row_of l) free row pool.fit has,
)

row_within : (k : Kind) (b row last x more : ℕ) → 1 ≤ row → row ≤ last → x < parts_of k → b + parts_of k * (row - 1) + x < b + parts_of k * last + more
row_within List_kind b row last x more i j m = omega (arith, i, j, m)
row_within Hash b row last x more i j m = omega (arith, i, j, m)
row_within Tree b row last x more i j m = omega (arith, i, j, m)

pub word_within : (l : Layout) (row w : ℕ) → 1 ≤ row → row ≤ last_row_of l → IsWordOf l row w → w < words_of l
word_within l row w least most (inl x) = subst (λ n. n < words_of l) (sym x.2) (by_values l.values)
  where
    by_values : (t : Bool) → row_word_of l row x.0 < l.buckets + parts_of l.kind * last_row_of l + (if t then last_row_of l else 0)
    by_values t = row_within l.kind l.buckets row (last_row_of l) x.0 (if t then last_row_of l else 0) least most x.1
word_within l row w least most (inr x) = subst (λ n. n < words_of l) (sym x.1)
    (subst (λ t. value_word_of l row < l.buckets + parts_of l.kind * last_row_of l + (if t then last_row_of l else 0)) (sym x.0)
    (less (l.buckets + parts_of l.kind * last_row_of l) row (last_row_of l) least most))
  where
    less : (a row last : ℕ) → 1 ≤ row → row ≤ last → a + (row - 1) < a + last
    less a row last i j = omega (arith, i, j)
