-- The parts of a line at a byte, and the numbers that its digits write.
use Rattle.std.proofs.Common.{◌≡◌, ◌≢◌, ℕ, ◌+◌, ◌*◌, ◌/◌, ◌%◌, ◌^◌, ◌<◌, ◌==◌, Bool, true, false, List, [], ◌∷◌, ◌++◌, length, get_or, decimal, sym, ap, ◌∙◌, refl, arith, append-nil, length-append, if◌then◌else◌, inl, inr, Contains, eq-eqb, ne_eqb, eqb-true}
use Rattle.std.specs.Str.Parse.{digits_value}
use Rattle.std.proofs.lemmas.Bool.{eqb-false}
use Rattle.std.proofs.lemmas.Fmt.{decimal_is_IsNumeral, decimal_nonempty}
use Rattle.flit_words.specs.Words.{version_of, value_of, is_tagged, tag_part}
use Rattle.flit_words.specs.Texts.{word_text}
use Rattle.flit_words.proofs.Numerals.{digit_in_number, IsNumber-decimal}
use Rattle.flit_image.proofs.Cuts.{head_apart, tail_apart, cut_once, decimal_apart}
use Rattle.flit_image.proofs.WordTexts.{tag_text, word_text_cut}

-- what stands before the first such byte, and behind it
abbrev pub before : ℕ → List ℕ → List ℕ
before c [] = []
before c (b ∷ bs) = if b == c then [] else b ∷ before c bs

abbrev pub behind_first : ℕ → List ℕ → List ℕ
behind_first c [] = []
behind_first c (b ∷ bs) = if b == c then bs else behind_first c bs

pub before-cut : (c : ℕ) (xs ys : List ℕ) → ¬ Contains xs c → before c (xs ++ c ∷ ys) ≡ xs
before-cut c [] ys apart = ap (λ t. if t then [] else c ∷ before c ys) (eq-eqb c c refl)
before-cut c (x ∷ xs) ys apart =
    ap (λ t. if t then [] else x ∷ before c (xs ++ c ∷ ys)) (ne_eqb x c (head_apart x c xs apart))
    ∙ ap (λ t. x ∷ t) (before-cut c xs ys (tail_apart x c xs apart))

pub behind_first-cut : (c : ℕ) (xs ys : List ℕ) → ¬ Contains xs c → behind_first c (xs ++ c ∷ ys) ≡ ys
behind_first-cut c [] ys apart = ap (λ t. if t then ys else behind_first c ys) (eq-eqb c c refl)
behind_first-cut c (x ∷ xs) ys apart =
    ap (λ t. if t then xs ++ c ∷ ys else behind_first c (xs ++ c ∷ ys)) (ne_eqb x c (head_apart x c xs apart))
    ∙ behind_first-cut c xs ys (tail_apart x c xs apart)

pub before-whole : (c : ℕ) (xs : List ℕ) → ¬ Contains xs c → before c xs ≡ xs
before-whole c [] apart = refl
before-whole c (x ∷ xs) apart =
    ap (λ t. if t then [] else x ∷ before c xs) (ne_eqb x c (head_apart x c xs apart))
    ∙ ap (λ t. x ∷ t) (before-whole c xs (tail_apart x c xs apart))

-- the number that digits write
abbrev pub number_in : List ℕ → ℕ
number_in digits = digits_value 10 digits

pub number_in-decimal : (n : ℕ) → n < 10 ^ 10 → number_in (decimal n) ≡ n
number_in-decimal n small = (decimal_is_IsNumeral n (omega arith)).1

-- no space stands in a decimal, and it begins with a digit
pub no_space : (n : ℕ) → n < 10 ^ 10 → ¬ Contains (decimal n) 32
no_space n small = decimal_apart n 32 small (inl (omega arith))

pub digit_first : (n : ℕ) → n < 10 ^ 10 → get_or (decimal n) 0 0 < 58
digit_first n small =
    let digit = digit_in_number (decimal n) 0 (IsNumber-decimal n small) (decimal_nonempty n (omega arith)) in
    grind arith

-- the raw word of a text V:X or V:Xt
abbrev pub tag_behind : List ℕ → ℕ
tag_behind text = if length (before 116 text) == length text then 0 else 2 ^ 32

abbrev pub raw_in : List ℕ → ℕ
raw_in text = number_in (before 58 text) * 2 ^ 33 + tag_behind (behind_first 58 text) + number_in (before 116 (behind_first 58 text))

before_tag : (n : ℕ) (t : Bool) → n < 10 ^ 10 → before 116 (decimal n ++ tag_text t) ≡ decimal n
before_tag n true small = before-cut 116 (decimal n) [] (decimal_apart n 116 small (inr (omega arith)))
before_tag n false small = rw append-nil (before-whole 116 (decimal n) (decimal_apart n 116 small (inr (omega arith))))

tag_behind-value : (n : ℕ) (t : Bool) → n < 10 ^ 10 → tag_behind (decimal n ++ tag_text t) ≡ tag_part t
tag_behind-value n true small =
    let longer : length (before 116 (decimal n ++ tag_text true)) ≢ length (decimal n ++ tag_text true) = rw (before_tag n true small)
    (λ e. omega (arith, e, length-append (decimal n) (tag_text true))) in
    ap (λ b. if b then 0 else 2 ^ 32) (ne_eqb _ _ longer)
tag_behind-value n false small =
    let same : length (before 116 (decimal n ++ tag_text false)) ≡ length (decimal n ++ tag_text false) = ap length (before_tag n false small
    ∙ sym (append-nil (decimal n))) in
    ap (λ b. if b then 0 else 2 ^ 32) (eq-eqb _ _ same)

raw_parts : (raw : ℕ) (t : Bool) → is_tagged raw ≡ t → version_of raw * 2 ^ 33 + tag_part t + value_of raw ≡ raw
raw_parts raw true tagged = let bit : raw / 2 ^ 32 % 2 ≡ 1 = eqb-true (raw / 2 ^ 32 % 2) 1 tagged in omega arith
raw_parts raw false tagged = let bit : raw / 2 ^ 32 % 2 ≢ 1 = eqb-false (raw / 2 ^ 32 % 2) 1 tagged in omega arith

pub raw_in-text : (raw : ℕ) → raw < 2 ^ 64 → raw_in (word_text raw) ≡ raw
raw_in-text raw small =
    let version : version_of raw < 10 ^ 10 = omega arith in
    let value : value_of raw < 10 ^ 10 = omega arith in
    let colon = decimal_apart (version_of raw) 58 version (inr (omega arith)) in
    let rest = decimal (value_of raw) ++ tag_text (is_tagged raw) in
    let high : number_in (before 58 (word_text raw)) ≡ version_of raw =
    ap (λ s. number_in (before 58 s)) (word_text_cut raw) ∙ ap number_in (before-cut 58 (decimal (version_of raw)) rest colon)
    ∙ number_in-decimal (version_of raw) version in
    let behind : behind_first 58 (word_text raw) ≡ rest =
    ap (behind_first 58) (word_text_cut raw) ∙ behind_first-cut 58 (decimal (version_of raw)) rest colon in
    let tag : tag_behind (behind_first 58 (word_text raw)) ≡ tag_part (is_tagged raw) =
    ap tag_behind behind ∙ tag_behind-value (value_of raw) (is_tagged raw) value in
    let low : number_in (before 116 (behind_first 58 (word_text raw))) ≡ value_of raw =
    ap (λ s. number_in (before 116 s)) behind ∙ ap number_in (before_tag (value_of raw) (is_tagged raw) value) ∙ number_in-decimal (value_of raw) value in
    ap (λ n. n * 2 ^ 33 + tag_behind (behind_first 58 (word_text raw)) + number_in (before 116 (behind_first 58 (word_text raw)))) high
    ∙ ap (λ n. version_of raw * 2 ^ 33 + n + number_in (before 116 (behind_first 58 (word_text raw)))) tag
    ∙ ap (λ n. version_of raw * 2 ^ 33 + tag_part (is_tagged raw) + n) low
    ∙ raw_parts raw (is_tagged raw) refl

-- two numbers are cut at their space in one way
pub numbers_parts : (text first second : List ℕ) (m n : ℕ) → m < 10 ^ 10 → text ≡ first ++ 32 ∷ second → ¬ Contains first 32 →
    text ≡ decimal m ++ 32 ∷ decimal n → (first ≡ decimal m) × (second ≡ decimal n)
numbers_parts text first second m n small cut apart is =
    cut_once 32 first (decimal m) second (decimal n) apart (no_space m small) (sym cut ∙ is)
