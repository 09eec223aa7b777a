-- What is known by how far a machine is, and the words of a row.
use Rattle.std.proofs.Common.{◌≡◌, inl, inr, ℕ, ◌+◌, ◌*◌, ◌-◌, ◌<◌, ◌≤◌, ◌&&◌, Bool, true, false, List, [], ◌∷◌, Contains, refl, sym, ap, subst, ◌∙◌, arith}
use Rattle.flit_words.specs.declared.layouts.Layout.{Layout}
use Rattle.flit_words.specs.Layouts.{row_word_of, value_word_of, parts_of, above_keys}
use Rattle.flit_words.specs.Words.{value_of}
use Rattle.flit_model.proofs.Membership.{contains_first, contains_later}
use Rattle.flit_structure.specs.Meanings.{IsServed, key_of}
use Rattle.flit_crew.specs.Machines.{Part, ToRead, HasRead, ToWin, HasWon, HasWritten, HasLost, Other}
use Rattle.flit_crew.specs.Heaps.{at_word, IsWordOf, HaveStayed}
use Rattle.flit_crew.specs.Fillings.{HoldFrom}
use Rattle.flit_crew.specs.Crews.{Who}
use Rattle.flit_tree_heap.specs.Views.{TreeHeap, IsTreeLayout}
use Rattle.flit_tree_laws.specs.Knowing.{IfRead, IfTried}

pub if_read : (P Q : ℕ → Type 0) → ((raw : ℕ) → P raw → Q raw) → (part : Part) → IfRead P part → IfRead Q part
if_read P Q f (ToRead word) x = tt
if_read P Q f (HasRead word raw) x = f raw x
if_read P Q f ToWin x = tt
if_read P Q f HasWon x = tt
if_read P Q f HasWritten x = tt
if_read P Q f (HasLost found) x = tt
if_read P Q f Other x = tt

pub if_tried : (P Q R S : Type 0) → (P → R) → (Q → S) → (part : Part) → IfTried P Q part → IfTried R S part
if_tried P Q R S f g (ToRead word) x = tt
if_tried P Q R S f g (HasRead word raw) x = tt
if_tried P Q R S f g ToWin x = f x
if_tried P Q R S f g HasWon x = g x
if_tried P Q R S f g HasWritten x = g x
if_tried P Q R S f g (HasLost found) x = tt
if_tried P Q R S f g Other x = tt

pub and_false : (b : Bool) → (b && false) ≡ false
and_false true = refl
and_false false = refl

pub at_most : (a b c : ℕ) → a ≤ b → b ≤ c → a ≤ c
at_most a b c i j = omega (arith, i, j)

-- the keys of calls
pub key_below : (l : Layout) (me : Who) → IsServed l me.call → key_of me.call < above_keys 0
key_below l me served = less (key_of me.call) served.key
  where
    less : (k : ℕ) → k ≤ 4294967292 → k < 4294967293
    less k i = omega (arith, i)

pub key_under : (l : Layout) (me : Who) → IsServed l me.call → key_of me.call < above_keys 1
key_under l me served = less (key_of me.call) served.key
  where
    less : (k : ℕ) → k ≤ 4294967292 → k < 4294967294
    less k i = omega (arith, i)

-- ---- the three parts of a row

pub next_part : (l : Layout) (row part : ℕ) → row_word_of l row part + 1 ≡ row_word_of l row (part + 1)
next_part l row part = plus (l.buckets + parts_of l.kind * (row - 1)) part
  where
    plus : (a b : ℕ) → a + b + 1 ≡ a + (b + 1)
    plus a b = omega arith

pub part_word : (l : Layout) → IsTreeLayout l → (row part : ℕ) → part < 3 → IsWordOf l row (row_word_of l row part)
part_word l layout row part b = inl (part, subst (λ k. part < parts_of k) (sym layout.kind) b, refl)

pub value_is_word : (l : Layout) → l.values ≡ true → (row : ℕ) → IsWordOf l row (value_word_of l row)
value_is_word l valued row = inr (valued, refl)

-- three words hold what they held
pub hold_three : (h k : TreeHeap) (l : Layout) (row a b c : ℕ) →
    ((part : ℕ) → part < 3 → at_word k (row_word_of l row part) ≡ at_word h (row_word_of l row part)) →
    HoldFrom h (row_word_of l row 0) (a ∷ b ∷ c ∷ []) → HoldFrom k (row_word_of l row 0) (a ∷ b ∷ c ∷ [])
hold_three h k l row a b c same f = (
  ap value_of (same 0 (omega arith)) ∙ f.0,
  (
    ap value_of (moved (row_word_of l row 0 + 1) 1 (next_part l row 0) (omega arith)) ∙ f.1.0,
    (
      ap value_of (moved (row_word_of l row 0 + 1 + 1) 2 (ap (λ w. w + 1) (next_part l row 0) ∙ next_part l row 1) (omega arith)) ∙ f.1.1.0,
      tt,
    ),
  ),
)
  where
    moved : (w part : ℕ) → w ≡ row_word_of l row part → part < 3 → at_word k w ≡ at_word h w
    moved w part e b = subst (λ v. at_word k v ≡ at_word h v) (sym e) (same part b)

-- the words of one of some rows that have stayed
module _ (l : Layout) (layout : IsTreeLayout l) (h k : TreeHeap) (leaf inner : ℕ) (rows : List ℕ) (own : rows ≡ leaf ∷ inner ∷ [])
    (stayed : HaveStayed l h k rows) where
  has_leaf : Contains rows leaf
  has_leaf = subst (λ rs. Contains rs leaf) (sym own) (contains_first leaf (inner ∷ []))

  has_inner : Contains rows inner
  has_inner = subst (λ rs. Contains rs inner) (sym own) (contains_later leaf (inner ∷ []) inner (contains_first inner []))

  pub leaf_holds : (a b c : ℕ) → HoldFrom h (row_word_of l leaf 0) (a ∷ b ∷ c ∷ []) → HoldFrom k (row_word_of l leaf 0) (a ∷ b ∷ c ∷ [])
  leaf_holds a b c f = hold_three h k l leaf a b c (λ part b. stayed leaf (row_word_of l leaf part) has_leaf (part_word l layout leaf part b)) f

  pub inner_holds : (a b c : ℕ) → HoldFrom h (row_word_of l inner 0) (a ∷ b ∷ c ∷ []) → HoldFrom k (row_word_of l inner 0) (a ∷ b ∷ c ∷ [])
  inner_holds a b c f = hold_three h k l inner a b c (λ part b. stayed inner (row_word_of l inner part) has_inner (part_word l layout inner part b)) f

  pub value_holds : (value : ℕ) → (l.values ≡ true → value_of (at_word h (value_word_of l leaf)) ≡ value) → l.values ≡ true →
      value_of (at_word k (value_word_of l leaf)) ≡ value
  value_holds value f valued = ap value_of (stayed leaf (value_word_of l leaf) has_leaf (value_is_word l valued leaf)) ∙ f valued
