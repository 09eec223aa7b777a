-- The lines of the text of lines, and the text of the lines of a text.
use Rattle.std.proofs.Common.{◌≡◌, ◌≢◌, ℕ, zero, suc, ◌+◌, ◌^◌, ◌<◌, ◌≤◌, ◌==◌, Bool, true, false, List, [], ◌∷◌, ◌++◌, length, get_or, codes, decimal, sym, ap, ◌∙◌, refl, arith, subst, inl, inr, Contains, append_assoc, if◌then◌else◌, eq-eqb, ne_eqb}
use Rattle.std.specs.List.{AllByRecursion}
use Rattle.std.specs.Int.{IsOutOfRange}
use Rattle.std.proofs.lemmas.Bool.{cases_eq}
use Rattle.flit_words.proofs.Lines.{lines_of-line}
use Rattle.flit_words.specs.declared.layouts.Kind.{Kind}
use Rattle.flit_words.specs.declared.layouts.Kind.TheVariants.{List as List_kind, Hash, Tree}
use Rattle.flit_words.specs.declared.layouts.Layout.{Layout}
use Rattle.flit_words.specs.Layouts.{Accepted, words_of, most_buckets}
use Rattle.flit_words.specs.Words.{version_of, value_of, is_tagged}
use Rattle.flit_words.specs.Texts.{lines_of, onto_first, word_text}
use Rattle.flit_image.specs.ImageTexts.{version_number, structure_line, word_line, word_lines, image_lines, image_text, IsImageText}
use Rattle.flit_image.specs.Readings.{with_ends}
use Rattle.flit_image.proofs.Cuts.{decimal_apart, tail_apart}
use Rattle.flit_image.proofs.WordTexts.{tag_text}
use Rattle.flit_image.proofs.BodyFaults.{lines_of-some}
use Rattle.flit_image.proofs.LinesSoFar.{lines_from}
use Rattle.flit_image.proofs.OneReading.{fresh_or_told, lines_if_fresh, lines_if_told}
use Rattle.flit_image.proofs.OneImage.{word_lines-from}
use Rattle.flit_image.proofs.Sizes.{words_of-below}

-- the list has no LF
abbrev pub IsLine : List ℕ → Type 0
IsLine line = AllByRecursion (λ b. b ≢ 10) line

in_line : (line : List ℕ) (k : ℕ) → IsLine line → k < length line → get_or line k 10 ≡ 10 → ⊥
in_line [] k all within is = omega arith
in_line (b ∷ bs) zero all within is = all.0 is
in_line (b ∷ bs) (suc k) all within is = in_line bs k all.1 (omega arith) is

apart : (line : List ℕ) → IsLine line → ¬ Contains line 10
apart line all h = in_line line h.0 all h.1 h.2

line_from : (line : List ℕ) → ¬ Contains line 10 → IsLine line
line_from [] out = tt
line_from (b ∷ bs) out = (λ e. out (0, omega arith, e), line_from bs (tail_apart b 10 bs out))

IsLine-append : (a b : List ℕ) → IsLine a → IsLine b → IsLine (a ++ b)
IsLine-append [] b one other = other
IsLine-append (x ∷ xs) b one other = (one.0, IsLine-append xs b one.1 other)

abbrev has_none : List ℕ → Bool
has_none [] = true
has_none (b ∷ bs) = if b == 10 then false else has_none bs

line_by_test : (line : List ℕ) → has_none line ≡ true → IsLine line
line_by_test [] test = tt
line_by_test (b ∷ bs) test =
    elim (cases_eq b 10) [
      | inl e ↦ let never : false ≡ true = sym (ap (λ t. if t then false else has_none bs) (eq-eqb b 10 e)) ∙ test in absurd (let none : ⊥ = cc in none)
      | inr ne ↦ (ne, line_by_test bs (sym (ap (λ t. if t then false else has_none bs) (ne_eqb b 10 ne)) ∙ test))
    ]

IsLine-decimal : (n : ℕ) → n < 10 ^ 10 → IsLine (decimal n)
IsLine-decimal n small =
    let out : IsOutOfRange 48 57 10 = inl (omega arith) in
    line_from (decimal n) (decimal_apart n 10 small out)

tag_is_line : (tagged : Bool) → IsLine (tag_text tagged)
tag_is_line true = line_by_test (codes "t") refl
tag_is_line false = tt

word_text_is_line : (raw : ℕ) → raw < 2 ^ 64 → IsLine (word_text raw)
word_text_is_line raw small =
    let version : version_of raw < 10 ^ 10 = omega arith in
    let value : value_of raw < 10 ^ 10 = omega arith in
    IsLine-append (decimal (version_of raw) ++ codes ":" ++ decimal (value_of raw)) (tag_text (is_tagged raw))
    (IsLine-append (decimal (version_of raw) ++ codes ":") (decimal (value_of raw))
    (IsLine-append (decimal (version_of raw)) (codes ":") (IsLine-decimal (version_of raw) version) (line_by_test (codes ":") refl))
    (IsLine-decimal (value_of raw) value)) (tag_is_line (is_tagged raw))

word_line_is_line : (word raw : ℕ) → word < 10 ^ 10 → raw < 2 ^ 64 → IsLine (word_line word raw)
word_line_is_line word raw few small =
    IsLine-append (codes "word " ++ decimal word ++ codes " ") (word_text raw)
    (IsLine-append (codes "word " ++ decimal word) (codes " ")
    (IsLine-append (codes "word ") (decimal word) (line_by_test (codes "word ") refl) (IsLine-decimal word few))
    (line_by_test (codes " ") refl)) (word_text_is_line raw small)

words_are_lines : (l : Layout) (n : ℕ) (raws : List ℕ) → n + length raws < 10 ^ 10 → AllByRecursion (λ x. x < 2 ^ 64) raws →
    AllByRecursion IsLine (lines_from l n raws ++ codes "end" ∷ [])
words_are_lines l n [] few all = (line_by_test (codes "end") refl, tt)
words_are_lines l n (x ∷ xs) few all =
    let rest : AllByRecursion IsLine (lines_from l (suc n) xs ++ codes "end" ∷ []) = words_are_lines l (suc n) xs (omega arith) all.1 in
    let here : IsLine (word_line n x) = word_line_is_line n x (omega arith) all.0 in
    elim (fresh_or_told l n x) [
      | inl fresh ↦ subst (AllByRecursion IsLine) (sym (lines_if_fresh l n x xs (codes "end" ∷ []) fresh)) rest
      | inr told ↦ subst (AllByRecursion IsLine) (sym (lines_if_told l n x xs (codes "end" ∷ []) told)) (here, rest)
    ]

version_is_line : (values : Bool) → IsLine (codes "image " ++ decimal (version_number values))
version_is_line true = IsLine-append (codes "image ") (decimal 2) (line_by_test (codes "image ") refl) (IsLine-decimal 2 (omega arith))
version_is_line false = IsLine-append (codes "image ") (decimal 1) (line_by_test (codes "image ") refl) (IsLine-decimal 1 (omega arith))

structure_is_line : (kind : Kind) (buckets : ℕ) → buckets ≤ most_buckets kind → IsLine (structure_line kind buckets)
structure_is_line List_kind buckets most = line_by_test (codes "structure list") refl
structure_is_line Tree buckets most = line_by_test (codes "structure tree") refl
structure_is_line Hash buckets most =
    IsLine-append (codes "structure hash ") (decimal buckets) (line_by_test (codes "structure hash ") refl) (IsLine-decimal buckets (omega arith))

rows_is_line : (rows : ℕ) → rows ≤ 1048575 → IsLine (codes "rows " ++ decimal rows)
rows_is_line rows most = IsLine-append (codes "rows ") (decimal rows) (line_by_test (codes "rows ") refl) (IsLine-decimal rows (omega arith))

image_has_lines : (l : Layout) (words : List ℕ) → Accepted l → length words ≡ words_of l → AllByRecursion (λ x. x < 2 ^ 64) words →
    AllByRecursion IsLine (image_lines l words)
image_has_lines l words accepted whole raw =
    let few : 0 + length words < 10 ^ 10 = omega (arith, words_of-below l accepted, whole) in
    let P : List (List ℕ) → Type 0 = λ ls. AllByRecursion IsLine (ls ++ codes "end" ∷ []) in
    let behind : P (word_lines l words) = subst P (sym (word_lines-from l words whole)) (words_are_lines l 0 words few raw) in
    (version_is_line l.values, (structure_is_line l.kind l.buckets accepted.most_bucket, (rows_is_line l.rows accepted.most_row, behind)))

lines_of-with_ends : (lines : List (List ℕ)) → AllByRecursion IsLine lines → lines_of (with_ends lines) ≡ lines
lines_of-with_ends [] all = refl
lines_of-with_ends (x ∷ xs) all =
    ap lines_of (append_assoc x (10 ∷ []) (with_ends xs))
    ∙ lines_of-line x (with_ends xs) (apart x all.0)
    ∙ ap (λ ls. x ∷ ls) (lines_of-with_ends xs all.1)

-- what is written is read again
pub image_text_again : (l : Layout) (words : List ℕ) → Accepted l → length words ≡ words_of l → AllByRecursion (λ raw. raw < 2 ^ 64) words →
    IsImageText (image_text l words) l words
image_text_again l words accepted whole raw = record {
  whole = whole;
  raw = raw;
  lines = lines_of-with_ends (image_lines l words) (image_has_lines l words accepted whole raw);
}

with_ends-onto : (b : ℕ) (ls : List (List ℕ)) → ls ≢ [] → with_ends (onto_first b ls) ≡ b ∷ with_ends ls
with_ends-onto b [] some = absurd (some refl)
with_ends-onto b (x ∷ xs) some = refl

some_end : (bs : List ℕ) → bs ++ 10 ∷ [] ≢ []
some_end [] e = cc
some_end (b ∷ bs) e = cc

-- the text of the lines of a text that ends with LF
with_ends-lines_of : (front : List ℕ) → with_ends (lines_of (front ++ 10 ∷ [])) ≡ front ++ 10 ∷ []
with_ends-lines_of [] = refl
with_ends-lines_of (b ∷ bs) =
    let rest = with_ends-lines_of bs in
    let text : List ℕ = bs ++ 10 ∷ [] in
    elim (cases_eq b 10) [
      | inl e ↦
          ap (λ t. with_ends (if t then [] ∷ lines_of text else onto_first b (lines_of text))) (eq-eqb b 10 e)
          ∙ ap (λ s. 10 ∷ s) rest
          ∙ ap (λ c. c ∷ text) (sym e)
      | inr ne ↦
          ap (λ t. with_ends (if t then [] ∷ lines_of text else onto_first b (lines_of text))) (ne_eqb b 10 ne)
          ∙ with_ends-onto b (lines_of text) (lines_of-some text (some_end bs))
          ∙ ap (λ s. b ∷ s) rest
    ]

-- a text with LF at its end is written again as it is
pub written_again : (bytes front : List ℕ) (l : Layout) (words : List ℕ) → bytes ≡ front ++ 10 ∷ [] → IsImageText bytes l words → bytes ≡ image_text l words
written_again bytes front l words ends text =
    sym (ap (λ s. with_ends (lines_of s)) ends ∙ with_ends-lines_of front ∙ sym ends)
    ∙ ap with_ends text.lines
