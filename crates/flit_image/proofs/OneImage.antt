-- A text is that of one image.
use Rattle.std.proofs.Common.{◌≡◌, ℕ, ◌+◌, ◌-◌, ◌*◌, ◌^◌, ◌<◌, ◌≤◌, Bool, true, false, List, [], ◌∷◌, ◌++◌, length, get_or, codes, decimal, sym, ap, ◌∙◌, refl, arith, if◌then◌else◌}
use Rattle.flit_words.specs.declared.layouts.Kind.{Kind}
use Rattle.flit_words.specs.declared.layouts.Kind.TheVariants.{List as List_kind, Hash, Tree}
use Rattle.flit_words.specs.declared.layouts.Layout.{Layout}
use Rattle.flit_words.specs.Layouts.{Accepted, words_of, least_buckets, most_buckets, parts_of, first_row_of}
use Rattle.flit_image.specs.Images.{SameShape}
use Rattle.flit_image.specs.ImageTexts.{version_number, structure_line, header_lines, word_lines, image_lines, IsImageText}
use Rattle.flit_image.proofs.HeaderLines.{same_number}
use Rattle.flit_image.proofs.LinesSoFar.{lines_from, lines_so_far-from, lines_so_far-whole}
use Rattle.flit_image.proofs.OneReading.{words_once}
use Rattle.flit_image.proofs.Sizes.{words_of-below}

version_once : (v u : Bool) → codes "image " ++ decimal (version_number v) ≡ codes "image " ++ decimal (version_number u) → v ≡ u
version_once true true same = refl
version_once false false same = refl
version_once true false same = absurd (omega (arith, same_number (codes "image ") (codes "image " ++ decimal 2) 2 1 (omega arith) (omega arith) refl same))
version_once false true same = absurd (omega (arith, same_number (codes "image ") (codes "image " ++ decimal 1) 1 2 (omega arith) (omega arith) refl same))

-- a kind and its buckets
record SameStructure (k j : Kind) (b c : ℕ) : Type 0 where
  kind : k ≡ j
  buckets : b ≡ c

structure_once : (k j : Kind) (b c : ℕ) → least_buckets k ≤ b → b ≤ most_buckets k → least_buckets j ≤ c → c ≤ most_buckets j →
    structure_line k b ≡ structure_line j c → SameStructure k j b c
structure_once List_kind List_kind b c low high least most same = record { kind = refl; buckets = omega arith }
structure_once Tree Tree b c low high least most same = record { kind = refl; buckets = omega arith }
structure_once Hash Hash b c low high least most same = record {
  kind = refl;
  buckets = same_number (codes "structure hash ") (codes "structure hash " ++ decimal b) b c (omega arith) (omega arith) refl same;
}
structure_once List_kind Hash b c low high least most same = let letter : 108 ≡ 104 = ap (λ s. get_or s 10 0) same in absurd (omega (arith, letter))
structure_once List_kind Tree b c low high least most same = let letter : 108 ≡ 116 = ap (λ s. get_or s 10 0) same in absurd (omega (arith, letter))
structure_once Hash List_kind b c low high least most same = let letter : 104 ≡ 108 = ap (λ s. get_or s 10 0) same in absurd (omega (arith, letter))
structure_once Hash Tree b c low high least most same = let letter : 104 ≡ 116 = ap (λ s. get_or s 10 0) same in absurd (omega (arith, letter))
structure_once Tree List_kind b c low high least most same = let letter : 116 ≡ 108 = ap (λ s. get_or s 10 0) same in absurd (omega (arith, letter))
structure_once Tree Hash b c low high least most same = let letter : 116 ≡ 104 = ap (λ s. get_or s 10 0) same in absurd (omega (arith, letter))

pub same_shape : (l k : Layout) → Accepted l → Accepted k → header_lines l ≡ header_lines k → SameShape l k
same_shape l k one other same =
    let version : codes "image " ++ decimal (version_number l.values) ≡ codes "image " ++ decimal (version_number k.values) = cc in
    let structure : structure_line l.kind l.buckets ≡ structure_line k.kind k.buckets = cc in
    let numbers : codes "rows " ++ decimal l.rows ≡ codes "rows " ++ decimal k.rows = cc in
    let both = structure_once l.kind k.kind l.buckets k.buckets one.least_bucket one.most_bucket other.least_bucket other.most_bucket structure in
    let low : l.rows ≤ 1048575 = one.most_row in
    let small : k.rows ≤ 1048575 = other.most_row in
    record {
      kind = both.kind;
      buckets = both.buckets;
      rows = same_number (codes "rows ") (codes "rows " ++ decimal l.rows) l.rows k.rows (omega arith) (omega arith) refl numbers;
      values = version_once l.values k.values version;
    }

-- layouts of one shape have as many words
abbrev count_of : Kind → ℕ → ℕ → Bool → ℕ
count_of kind buckets rows values = buckets + parts_of kind * (rows + (first_row_of kind - 1)) + (if values then rows + (first_row_of kind - 1) else 0)

pub words_of-same : (l k : Layout) → SameShape l k → words_of l ≡ words_of k
words_of-same l k same =
    ap (λ kind. count_of kind l.buckets l.rows l.values) same.kind
    ∙ ap (λ buckets. count_of k.kind buckets l.rows l.values) same.buckets
    ∙ ap (λ rows. count_of k.kind k.buckets rows l.values) same.rows
    ∙ ap (λ values. count_of k.kind k.buckets k.rows values) same.values

pub word_lines-from : (l : Layout) (words : List ℕ) → length words ≡ words_of l → word_lines l words ≡ lines_from l 0 words
word_lines-from l words whole = sym (lines_so_far-whole l words whole) ∙ lines_so_far-from l words

-- the lines of two images begin with the same header, and go on with the same words
record SameLines (l k : Layout) (words others : List ℕ) : Type 0 where
  header : header_lines l ≡ header_lines k
  rest : word_lines l words ++ codes "end" ∷ [] ≡ word_lines k others ++ codes "end" ∷ []

same_lines : (l k : Layout) (words others : List ℕ) → image_lines l words ≡ image_lines k others → SameLines l k words others
same_lines l k words others same = record { header = cc; rest = cc }

pub one_shape : (bytes : List ℕ) (l k : Layout) (words others : List ℕ) → Accepted l → Accepted k → IsImageText bytes l words → IsImageText bytes k others →
    SameShape l k
one_shape bytes l k words others accepted sound one other =
    same_shape l k accepted sound (same_lines l k words others (sym one.lines ∙ other.lines)).header

pub one_list : (bytes : List ℕ) (l k : Layout) (words others : List ℕ) → Accepted l → Accepted k → IsImageText bytes l words → IsImageText bytes k others →
    words ≡ others
one_list bytes l k words others accepted sound one other =
    let same = same_lines l k words others (sym one.lines ∙ other.lines) in
    let shape = same_shape l k accepted sound same.header in
    let many : length words ≡ length others = one.whole ∙ words_of-same l k shape ∙ sym other.whole in
    let few : 0 + length words < 10 ^ 10 = omega (arith, words_of-below l accepted, one.whole) in
    let rest : lines_from l 0 words ++ codes "end" ∷ [] ≡ lines_from k 0 others ++ codes "end" ∷ [] =
    ap (λ ls. ls ++ codes "end" ∷ []) (sym (word_lines-from l words one.whole)) ∙ same.rest
    ∙ ap (λ ls. ls ++ codes "end" ∷ []) (word_lines-from k others other.whole) in
    words_once l k 0 words others shape.kind few many one.raw other.raw rest
