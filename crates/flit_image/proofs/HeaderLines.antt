-- The first three lines of images.
use Rattle.std.proofs.Common.{◌≡◌, ◌≢◌, ℕ, ◌<◌, ◌≤◌, Bool, true, false, List, [], ◌∷◌, ◌++◌, take, codes, decimal, sym, ap, ◌∙◌, arith, ◌^◌}
use Rattle.std.specs.Prelude.{Option, Some, None, IfNone}
use Rattle.std.proofs.lemmas.Fmt.{decimal_injective}
use Rattle.std.proofs.lemmas.List.{append_cancel_left}
use Rattle.flit_words.specs.declared.layouts.Kind.{Kind}
use Rattle.flit_words.specs.declared.layouts.Kind.TheVariants.{List as List_kind, Hash, Tree}
use Rattle.flit_words.specs.declared.layouts.Layout.{Layout}
use Rattle.flit_words.specs.Texts.{lines_of}
use Rattle.flit_image.specs.ImageTexts.{version_number, structure_line, header_lines}
use Rattle.flit_image.specs.Readings.{IsStructureLine}

pub no_structure : (line : List ℕ) → line ≢ codes "structure list" → line ≢ codes "structure tree" →
    ((n : ℕ) → 1 ≤ n → n ≤ 65536 → line ≢ codes "structure hash " ++ decimal n) → (kind : Kind) (buckets : ℕ) → ¬ IsStructureLine line kind buckets
no_structure line list tree hash List_kind buckets reading = list reading.is
no_structure line list tree hash Hash buckets reading = hash buckets reading.least reading.most reading.is
no_structure line list tree hash Tree buckets reading = tree reading.is

-- a header's lines are these
pub record AreHeaderLines (l : Layout) (version structure numbers : List ℕ) : Type 0 where
  pub version_is : version ≡ codes "image " ++ decimal (version_number l.values)
  pub structure_is : structure ≡ structure_line l.kind l.buckets
  pub numbers_is : numbers ≡ codes "rows " ++ decimal l.rows

pub header_parts : (lines more : List (List ℕ)) (a b c : List ℕ) (l : Layout) → lines ≡ a ∷ b ∷ c ∷ more → take 3 lines ≡ header_lines l →
    AreHeaderLines l a b c
header_parts lines more a b c l is same =
    let three : a ∷ b ∷ c ∷ [] ≡ header_lines l = sym (ap (take 3) is) ∙ same in
    record { version_is = cc; structure_is = cc; numbers_is = cc }

-- with fewer lines there is none
pub no_first : (lines : List (List ℕ)) (l : Layout) → lines ≡ [] → take 3 lines ≡ header_lines l → ⊥
no_first lines l is same = let none : [] ≡ header_lines l = sym (ap (take 3) is) ∙ same in cc

pub no_second : (lines : List (List ℕ)) (a : List ℕ) (l : Layout) → lines ≡ a ∷ [] → take 3 lines ≡ header_lines l → ⊥
no_second lines a l is same = let none : a ∷ [] ≡ header_lines l = sym (ap (take 3) is) ∙ same in cc

pub no_third : (lines : List (List ℕ)) (a b : List ℕ) (l : Layout) → lines ≡ a ∷ b ∷ [] → take 3 lines ≡ header_lines l → ⊥
no_third lines a b l is same = let none : a ∷ b ∷ [] ≡ header_lines l = sym (ap (take 3) is) ∙ same in cc

pub first_lines : (text rest behind : List ℕ) (a b : List ℕ) → lines_of text ≡ a ∷ lines_of rest → lines_of rest ≡ b ∷ lines_of behind →
    lines_of text ≡ a ∷ b ∷ lines_of behind
first_lines text rest behind a b one two = cc

pub three_lines : (text second third body : List ℕ) (a b c : List ℕ) → lines_of text ≡ a ∷ lines_of second → lines_of second ≡ b ∷ lines_of third →
    lines_of third ≡ c ∷ lines_of body → lines_of text ≡ a ∷ b ∷ c ∷ lines_of body
three_lines text second third body a b c one two three = cc

-- a line has one number behind the same words
pub same_number : (words line : List ℕ) (m n : ℕ) → m < 2 ^ 64 → n < 2 ^ 64 → line ≡ words ++ decimal m → line ≡ words ++ decimal n → m ≡ n
same_number words line m n small low one other =
    decimal_injective m n small low (append_cancel_left words (decimal m) (decimal n) (sym one ∙ other))

pub no_version : (line : List ℕ) (version : ℕ) → version ≡ 0 → line ≡ codes "image " ++ decimal version → (values : Bool) →
    line ≢ codes "image " ++ decimal (version_number values)
no_version line version nothing is true other = omega (arith, same_number (codes "image ") line version 2 (omega arith) (omega arith) is other)
no_version line version nothing is false other = omega (arith, same_number (codes "image ") line version 1 (omega arith) (omega arith) is other)

pub none_weaker : {X : Type 0} (o : Option X) {P Q : Type 0} → (P → Q) → IfNone o P → IfNone o Q
none_weaker None f p = f p
none_weaker (Some x) f p = tt
