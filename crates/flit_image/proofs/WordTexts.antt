-- The texts of raw words, and the lines of words.
use Rattle.std.proofs.Common.{◌≡◌, ℕ, ◌+◌, ◌*◌, ◌/◌, ◌%◌, ◌^◌, ◌<◌, Bool, true, false, List, [], ◌∷◌, ◌++◌, codes, decimal, sym, ap, ◌∙◌, refl, arith, append_assoc, append-nil, if◌then◌else◌, inl, inr, Contains}
use Rattle.std.proofs.lemmas.List.{append_cancel_left}
use Rattle.flit_words.specs.Words.{version_of, value_of, is_tagged, tag_part}
use Rattle.flit_words.specs.Texts.{word_text}
use Rattle.flit_image.specs.ImageTexts.{word_line, IsWordLine}
use Rattle.flit_image.proofs.Cuts.{cut_once, contains_cut, decimal_apart}

-- what stands behind the value of a tagged word
abbrev pub tag_text : Bool → List ℕ
tag_text tagged = if tagged then codes "t" else []

version_of-pack : (v x : ℕ) (t : Bool) → x < 2 ^ 32 → version_of (v * 2 ^ 33 + tag_part t + x) ≡ v
version_of-pack v x true small = omega arith
version_of-pack v x false small = omega arith

value_of-pack : (v x : ℕ) (t : Bool) → x < 2 ^ 32 → value_of (v * 2 ^ 33 + tag_part t + x) ≡ x
value_of-pack v x true small = omega arith
value_of-pack v x false small = omega arith

is_tagged-pack : (v x : ℕ) (t : Bool) → x < 2 ^ 32 → is_tagged (v * 2 ^ 33 + tag_part t + x) ≡ t
is_tagged-pack v x true small = let bit : (v * 2 ^ 33 + 2 ^ 32 + x) / 2 ^ 32 % 2 ≡ 1 = omega arith in rw bit refl
is_tagged-pack v x false small = let bit : (v * 2 ^ 33 + 0 + x) / 2 ^ 32 % 2 ≡ 0 = omega arith in rw bit refl

-- the colon of a raw word's text
pub word_text_cut : (raw : ℕ) → word_text raw ≡ decimal (version_of raw) ++ 58 ∷ (decimal (value_of raw) ++ tag_text (is_tagged raw))
word_text_cut raw = simp append_assoc

-- a version, a value and a tag as a raw word's text prints them
word_text-pack : (v x : ℕ) (t : Bool) → x < 2 ^ 32 → word_text (v * 2 ^ 33 + tag_part t + x) ≡ decimal v ++ 58 ∷ (decimal x ++ tag_text t)
word_text-pack v x t small =
    word_text_cut (v * 2 ^ 33 + tag_part t + x)
    ∙ ap (λ n. decimal n ++ 58 ∷ (decimal (value_of (v * 2 ^ 33 + tag_part t + x)) ++ tag_text (is_tagged (v * 2 ^ 33 + tag_part t + x))))
    (version_of-pack v x t small)
    ∙ ap (λ n. decimal v ++ 58 ∷ (decimal n ++ tag_text (is_tagged (v * 2 ^ 33 + tag_part t + x)))) (value_of-pack v x t small)
    ∙ ap (λ b. decimal v ++ 58 ∷ (decimal x ++ tag_text b)) (is_tagged-pack v x t small)

pub word_text_from : (text digits behind : List ℕ) (v x raw : ℕ) (t : Bool) → x < 2 ^ 32 → text ≡ digits ++ 58 ∷ behind → digits ≡ decimal v →
    behind ≡ decimal x ++ tag_text t → raw ≡ v * 2 ^ 33 + tag_part t + x → text ≡ word_text raw
word_text_from text digits behind v x raw t small cut version value is =
    cut
    ∙ ap (λ d. d ++ 58 ∷ behind) version
    ∙ ap (λ b. decimal v ++ 58 ∷ b) value
    ∙ sym (ap word_text is ∙ word_text-pack v x t small)

-- the t behind a value
pub tagged_cut : (text digits behind : List ℕ) (v : ℕ) (t : Bool) → v < 2 ^ 32 → text ≡ digits ++ 116 ∷ behind → ¬ Contains digits 116 →
    text ≡ decimal v ++ tag_text t → (digits ≡ decimal v) × (behind ≡ [])
tagged_cut text digits behind v true small cut first is =
    cut_once 116 digits (decimal v) behind [] first (decimal_apart v 116 (omega arith) (inr (omega arith))) (sym cut ∙ is)
tagged_cut text digits behind v false small cut first is =
    let plain : decimal v ≡ digits ++ 116 ∷ behind = sym (append-nil (decimal v)) ∙ sym is ∙ cut in
    absurd (decimal_apart v 116 (omega arith) (inr (omega arith)) (contains_cut (decimal v) digits behind 116 plain))

-- the parts of a raw word's text
pub word_text_parts : (text digits behind : List ℕ) (raw : ℕ) → raw < 2 ^ 64 → text ≡ digits ++ 58 ∷ behind → ¬ Contains digits 58 → text ≡ word_text raw →
    (digits ≡ decimal (version_of raw)) × (behind ≡ decimal (value_of raw) ++ tag_text (is_tagged raw))
word_text_parts text digits behind raw small cut first is =
    let version : version_of raw < 10 ^ 10 = omega arith in
    cut_once 58 digits (decimal (version_of raw)) behind (decimal (value_of raw) ++ tag_text (is_tagged raw)) first
    (decimal_apart (version_of raw) 58 version (inr (omega arith))) (sym cut ∙ is ∙ word_text_cut raw)

-- the parts of a word's line
pub word_line_cut : (word raw : ℕ) → word_line word raw ≡ codes "word " ++ (decimal word ++ 32 ∷ word_text raw)
word_line_cut word raw =
    append_assoc (codes "word " ++ decimal word) (codes " ") (word_text raw)
    ∙ append_assoc (codes "word ") (decimal word) (32 ∷ word_text raw)

pub word_line_parts : (line rest digits text : List ℕ) (word raw : ℕ) → line ≡ codes "word " ++ rest → rest ≡ digits ++ 32 ∷ text → ¬ Contains digits 32 →
    IsWordLine line word raw → (digits ≡ decimal word) × (text ≡ word_text raw)
word_line_parts line rest digits text word raw begins cut first reading =
    let same : rest ≡ decimal word ++ 32 ∷ word_text raw = append_cancel_left (codes "word ") rest _ (sym begins ∙ reading.is ∙ word_line_cut word raw) in
    cut_once 32 digits (decimal word) text (word_text raw) first (decimal_apart word 32 reading.digits (inl (omega arith))) (sym cut ∙ same)
