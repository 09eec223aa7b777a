-- Each word's line has one word and one raw word, and lines are those of one list of words.
use Rattle.std.proofs.Common.{◌≡◌, ◌≢◌, ℕ, zero, suc, ◌+◌, ◌/◌, ◌%◌, ◌^◌, ◌<◌, ◌⊎◌, ◌==◌, Bool, true, false, List, [], ◌∷◌, ◌++◌, length, codes, decimal, sym, ap, ◌∙◌, refl, arith, inl, inr, append-nil}
use Rattle.std.specs.List.{AllByRecursion}
use Rattle.std.proofs.lemmas.Bool.{cases_eq}
use Rattle.std.proofs.lemmas.Fmt.{decimal_injective}
use Rattle.flit_words.specs.declared.layouts.Layout.{Layout}
use Rattle.flit_words.specs.Words.{version_of, value_of, is_tagged}
use Rattle.flit_words.specs.Layouts.{initial_of}
use Rattle.flit_words.specs.Texts.{word_text}
use Rattle.flit_image.specs.ImageTexts.{word_line, IsWordLine}
use Rattle.flit_image.specs.Readings.{line_of}
use Rattle.flit_image.proofs.Cuts.{contains_cut, decimal_apart, cut_once}
use Rattle.flit_image.proofs.WordTexts.{tag_text, word_text_cut, word_text_parts, word_line_cut, word_line_parts}
use Rattle.flit_image.proofs.LinesSoFar.{lines_from, line_of-fresh, line_of-told}

bit_once : (a b : ℕ) → a < 2 → b < 2 → (a == 1) ≡ (b == 1) → a ≡ b
bit_once zero zero low small same = refl
bit_once zero (suc zero) low small same = cc
bit_once zero (suc (suc b)) low small same = absurd (omega arith)
bit_once (suc zero) zero low small same = cc
bit_once (suc zero) (suc zero) low small same = refl
bit_once (suc zero) (suc (suc b)) low small same = absurd (omega arith)
bit_once (suc (suc a)) b low small same = absurd (omega arith)

-- a raw word is its version, its tag and its value
raw_once : (raw other : ℕ) → version_of raw ≡ version_of other → value_of raw ≡ value_of other → is_tagged raw ≡ is_tagged other → raw ≡ other
raw_once raw other version value tagged =
    let bit : raw / 2 ^ 32 % 2 ≡ other / 2 ^ 32 % 2 = bit_once (raw / 2 ^ 32 % 2) (other / 2 ^ 32 % 2) (omega arith) (omega arith) tagged in
    omega arith

-- a value and its tag are read in one way
pub tag_once : (v x : ℕ) (t u : Bool) → v < 2 ^ 32 → x < 2 ^ 32 → decimal v ++ tag_text t ≡ decimal x ++ tag_text u → (v ≡ x) × (t ≡ u)
tag_once v x true true low small same =
    let both = cut_once 116 (decimal v) (decimal x) [] [] (decimal_apart v 116 (omega arith) (inr (omega arith)))
    (decimal_apart x 116 (omega arith) (inr (omega arith))) same in
    (decimal_injective v x (omega arith) (omega arith) both.0, refl)
tag_once v x false false low small same =
    (decimal_injective v x (omega arith) (omega arith) (sym (append-nil (decimal v)) ∙ same ∙ append-nil (decimal x)), refl)
tag_once v x true false low small same =
    absurd (decimal_apart x 116 (omega arith) (inr (omega arith)) (contains_cut (decimal x) (decimal v) [] 116 (sym (append-nil (decimal x)) ∙ sym same)))
tag_once v x false true low small same =
    absurd (decimal_apart v 116 (omega arith) (inr (omega arith)) (contains_cut (decimal v) (decimal x) [] 116 (sym (append-nil (decimal v)) ∙ same)))

pub word_text_once : (raw other : ℕ) → raw < 2 ^ 64 → other < 2 ^ 64 → word_text raw ≡ word_text other → raw ≡ other
word_text_once raw other low small same =
    let high : version_of raw < 10 ^ 10 = omega arith in
    let parts = word_text_parts (word_text raw) (decimal (version_of raw)) (decimal (value_of raw) ++ tag_text (is_tagged raw)) other small (word_text_cut raw)
    (decimal_apart (version_of raw) 58 high (inr (omega arith))) same in
    let version : version_of raw ≡ version_of other = decimal_injective (version_of raw) (version_of other) (omega arith) (omega arith) parts.0 in
    let behind = tag_once (value_of raw) (value_of other) (is_tagged raw) (is_tagged other) (omega arith) (omega arith) parts.1 in
    raw_once raw other version behind.0 behind.1

pub word_line_once : (m n raw other : ℕ) → m < 10 ^ 10 → n < 10 ^ 10 → raw < 2 ^ 64 → other < 2 ^ 64 → word_line m raw ≡ word_line n other →
    (m ≡ n) × (raw ≡ other)
word_line_once m n raw other few some low small same =
    let reading : IsWordLine (word_line m raw) n other = record { is = same; digits = some; raw_below = small } in
    let parts = word_line_parts (word_line m raw) (decimal m ++ 32 ∷ word_text raw) (decimal m) (word_text raw) n other (word_line_cut m raw) refl
    (decimal_apart m 32 few (inl (omega arith))) reading in
    (decimal_injective m n (omega arith) (omega arith) parts.0, word_text_once raw other low small parts.1)

pub no_end : (word raw : ℕ) → word_line word raw ≢ codes "end"
no_end word raw same = cc

-- a word has its line or not
pub record IsFreshWord (l : Layout) (word raw : ℕ) : Type 0 where
  pub fresh : raw ≡ initial_of l.kind word
  pub none : line_of l word raw ≡ []

pub record IsTold (l : Layout) (word raw : ℕ) : Type 0 where
  pub told : raw ≢ initial_of l.kind word
  pub one : line_of l word raw ≡ word_line word raw ∷ []

pub fresh_or_told : (l : Layout) (word raw : ℕ) → IsFreshWord l word raw ⊎ IsTold l word raw
fresh_or_told l word raw =
    elim (cases_eq raw (initial_of l.kind word)) [
      | inl e ↦ inl (record { fresh = e; none = line_of-fresh l word raw e })
      | inr ne ↦ inr (record { told = ne; one = line_of-told l word raw ne })
    ]

-- the lines behind a word
pub lines_if_fresh : (l : Layout) (m x : ℕ) (xs : List ℕ) (more : List (List ℕ)) → IsFreshWord l m x →
    lines_from l m (x ∷ xs) ++ more ≡ lines_from l (suc m) xs ++ more
lines_if_fresh l m x xs more fresh = ap (λ ls. (ls ++ lines_from l (suc m) xs) ++ more) fresh.none

pub lines_if_told : (l : Layout) (m x : ℕ) (xs : List ℕ) (more : List (List ℕ)) → IsTold l m x →
    lines_from l m (x ∷ xs) ++ more ≡ word_line m x ∷ (lines_from l (suc m) xs ++ more)
lines_if_told l m x xs more told = ap (λ ls. (ls ++ lines_from l (suc m) xs) ++ more) told.one

-- no line of the words from m on is that of a word below m
pub none_before : (l : Layout) (m n raw : ℕ) (raws : List ℕ) (rest : List (List ℕ)) → n < m → m + length raws < 10 ^ 10 → raw < 2 ^ 64 →
    AllByRecursion (λ x. x < 2 ^ 64) raws → lines_from l m raws ++ codes "end" ∷ [] ≡ word_line n raw ∷ rest → ⊥
none_before l m n raw [] rest below few small all same =
    let e : codes "end" ≡ word_line n raw = cc in no_end n raw (sym e)
none_before l m n raw (x ∷ xs) rest below few small all same =
    elim (fresh_or_told l m x) [
      | inl fresh ↦ none_before l (suc m) n raw xs rest (omega arith) (omega arith) small all.1 (sym (lines_if_fresh l m x xs (codes "end" ∷ []) fresh) ∙ same)
      | inr told ↦
          let both : word_line m x ∷ (lines_from l (suc m) xs ++ codes "end" ∷ [])
          ≡ word_line n raw ∷ rest = sym (lines_if_told l m x xs (codes "end" ∷ []) told) ∙ same in
          let e : word_line m x ≡ word_line n raw = cc in
          omega (arith, (word_line_once m n x raw (omega arith) (omega arith) all.0 small e).0)
    ]

-- two lists of words with the same lines are one
pub words_once : (l k : Layout) (n : ℕ) (xs ys : List ℕ) → l.kind ≡ k.kind → n + length xs < 10 ^ 10 → length xs ≡ length ys →
    AllByRecursion (λ x. x < 2 ^ 64) xs → AllByRecursion (λ x. x < 2 ^ 64) ys → lines_from l n xs ++ codes "end" ∷ [] ≡ lines_from k n ys ++ codes "end" ∷ [] →
    xs ≡ ys
words_once l k n [] [] kind few many all those same = refl
words_once l k n [] (y ∷ ys) kind few many all those same = absurd (omega arith)
words_once l k n (x ∷ xs) [] kind few many all those same = absurd (omega arith)
words_once l k n (x ∷ xs) (y ∷ ys) kind few many all those same =
    elim (fresh_or_told l n x) [
      | inl a ↦ elim (fresh_or_told k n y) [
        | inl b ↦
            let heads : x ≡ y = a.fresh ∙ ap (λ v. initial_of v n) kind ∙ sym b.fresh in
            let tails : xs ≡ ys = words_once l k (suc n) xs ys kind (omega arith) (omega arith) all.1 those.1
            (sym (lines_if_fresh l n x xs (codes "end" ∷ []) a) ∙ same ∙ lines_if_fresh k n y ys (codes "end" ∷ []) b) in
            cc
        | inr b ↦ absurd (none_before l (suc n) n y xs (lines_from k (suc n) ys ++ codes "end" ∷ []) (omega arith) (omega arith) those.0 all.1
            (sym (lines_if_fresh l n x xs (codes "end" ∷ []) a) ∙ same ∙ lines_if_told k n y ys (codes "end" ∷ []) b))
      ]
      | inr a ↦ elim (fresh_or_told k n y) [
        | inl b ↦ absurd (none_before k (suc n) n x ys (lines_from l (suc n) xs ++ codes "end" ∷ []) (omega arith) (omega arith) all.0 those.1
            (sym (lines_if_fresh k n y ys (codes "end" ∷ []) b) ∙ sym same ∙ lines_if_told l n x xs (codes "end" ∷ []) a))
        | inr b ↦
            let both : word_line n x ∷ (lines_from l (suc n) xs ++ codes "end" ∷ [])
            ≡ word_line n y ∷ (lines_from k (suc n) ys ++ codes "end" ∷ []) = sym (lines_if_told l n x xs (codes "end" ∷ []) a) ∙ same
            ∙ lines_if_told k n y ys (codes "end" ∷ []) b in
            let e : word_line n x ≡ word_line n y = cc in
            let rest : lines_from l (suc n) xs ++ codes "end" ∷ [] ≡ lines_from k (suc n) ys ++ codes "end" ∷ [] = cc in
            let heads : x ≡ y = (word_line_once n n x y (omega arith) (omega arith) all.0 those.0 e).1 in
            let tails : xs ≡ ys = words_once l k (suc n) xs ys kind (omega arith) (omega arith) all.1 those.1 rest in
            cc
      ]
    ]
