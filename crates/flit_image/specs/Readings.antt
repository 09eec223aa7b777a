-- What the parts of reading an image say of the text.
use Rattle.std.specs.Prelude.{◌≡◌, ℕ, ◌≤◌, ◌==◌, List, [], ◌∷◌, ◌++◌, flat_map, length, if◌then◌else◌}
use Rattle.std.specs.List.{range_with_len}
use Rattle.flit_words.specs.declared.layouts.Kind.{Kind}
use Rattle.flit_words.specs.declared.layouts.Layout.{Layout}
use Rattle.flit_words.specs.Layouts.{Accepted, least_buckets, most_buckets, initial_of}
use Rattle.flit_words.specs.Texts.{lines_of}
use Rattle.flit_model.specs.Recovery.{IsImageLayout}
use Rattle.flit_image.specs.ImageTexts.{structure_line, header_lines, word_line, lines_at, IsWordLine, IsGoodWord}

-- the line is the structure line of this kind and number of buckets
pub record IsStructureLine (line : List ℕ) (kind : Kind) (buckets : ℕ) : Type 0 where
  pub is : line ≡ structure_line kind buckets
  pub least : least_buckets kind ≤ buckets
  pub most : buckets ≤ most_buckets kind

-- the text begins with the first three lines of this layout's images, and then comes the rest
pub record BeginsImage (text : List ℕ) (l : Layout) (rest : List ℕ) : Type 0 where
  pub accepted : Accepted l
  pub plain : IsImageLayout l
  pub lines : lines_of text ≡ header_lines l ++ lines_of rest

-- the text begins with the line of a word that may stand there, and then comes the rest
pub record BeginsWord (l : Layout) (low : ℕ) (text line : List ℕ) (word raw : ℕ) (rest : List ℕ) : Type 0 where
  pub lines : lines_of text ≡ line ∷ lines_of rest
  pub is : IsWordLine line word raw
  pub good : IsGoodWord l low word raw

-- the line of a word, where it has one
abbrev pub line_of : Layout → ℕ → ℕ → List (List ℕ)
line_of l word raw = if raw == initial_of l.kind word then [] else word_line word raw ∷ []

-- the lines of the words so far
abbrev pub lines_so_far : Layout → List ℕ → List (List ℕ)
lines_so_far l words = flat_map (lines_at l words) (range_with_len 0 (length words))

-- lines with their LFs
abbrev pub with_ends : List (List ℕ) → List ℕ
with_ends lines = flat_map (λ line. line ++ 10 ∷ []) lines
