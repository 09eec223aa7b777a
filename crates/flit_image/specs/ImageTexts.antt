-- The text of an image, line by line, and the first fault of a text that is none. Version 2 is the text of an image with
-- values. A word that is untagged, of version 0 and has its fresh value has no line.
use Rattle.std.specs.Prelude.{◌≡◌, ◌≢◌, ◌⊎◌, ℕ, suc, ◌==◌, ◌^◌, ◌<◌, ◌≤◌, Bool, List, [], ◌∷◌, ◌++◌, flat_map, take, drop, length, slice_index, codes, if◌then◌else◌}
use Rattle.std.specs.List.{AllByRecursion, range_with_len}
use Rattle.std.specs.Fmt.{decimal}
use Rattle.flit_words.specs.declared.layouts.Kind.{Kind}
use Rattle.flit_words.specs.declared.layouts.Kind.TheVariants.{List as List_kind, Hash, Tree}
use Rattle.flit_words.specs.declared.layouts.Layout.{Layout}
use Rattle.flit_words.specs.Layouts.{Accepted, words_of, initial_of}
use Rattle.flit_words.specs.Texts.{lines_of, word_text}
use Rattle.flit_image.specs.declared.faults.ImageError.{ImageError}
use Rattle.flit_image.specs.declared.faults.ImageError.TheVariants.{BadHeader, BadLine, OutOfOrder, WordOutOfRange, Default, NoMemory}

-- the first three lines
abbrev pub version_number : Bool → ℕ
version_number values = if values then 2 else 1

abbrev pub structure_line : Kind → ℕ → List ℕ
structure_line List_kind buckets = codes "structure list"
structure_line Hash buckets = codes "structure hash " ++ decimal buckets
structure_line Tree buckets = codes "structure tree"

abbrev pub header_lines : Layout → List (List ℕ)
header_lines l =
    (codes "image " ++ decimal (version_number l.values)) ∷ structure_line l.kind l.buckets ∷ (codes "rows " ++ decimal l.rows) ∷ []

-- the line of a word, and the lines of all words that have one
abbrev pub word_line : ℕ → ℕ → List ℕ
word_line word raw = codes "word " ++ decimal word ++ codes " " ++ word_text raw

abbrev pub lines_at : Layout → List ℕ → ℕ → List (List ℕ)
lines_at l words word =
    if slice_index words word == initial_of l.kind word then [] else word_line word (slice_index words word) ∷ []

abbrev pub word_lines : Layout → List ℕ → List (List ℕ)
word_lines l words = flat_map (lines_at l words) (range_with_len 0 (words_of l))

-- all lines of an image
abbrev pub image_lines : Layout → List ℕ → List (List ℕ)
image_lines l words = header_lines l ++ word_lines l words ++ codes "end" ∷ []

-- the text of an image: each line ends with LF
abbrev pub image_text : Layout → List ℕ → List ℕ
image_text l words = flat_map (λ line. line ++ 10 ∷ []) (image_lines l words)

-- the bytes are an image text of these words; the last LF may be missing
pub record IsImageText (bytes : List ℕ) (l : Layout) (words : List ℕ) : Type 0 where
  pub whole : length words ≡ words_of l
  pub raw : AllByRecursion (λ raw. raw < 2 ^ 64) words
  pub lines : lines_of bytes ≡ image_lines l words

-- one of the first three lines is bad or missing, or a number there is outside the limits; slots, workers and the
-- limit of a layout show in no text
abbrev pub IsBadHeader : List (List ℕ) → Type 0
IsBadHeader lines = (l : Layout) → Accepted l → take 3 lines ≡ header_lines l → ⊥

-- the line is that of a word
pub record IsWordLine (line : List ℕ) (word raw : ℕ) : Type 0 where
  pub is : line ≡ word_line word raw
  pub digits : word < 10 ^ 10
  pub raw_below : raw < 2 ^ 64

-- what is wrong with a word line where the words below low have had their turn
abbrev pub IsWordFault : Layout → ℕ → ℕ → ℕ → ℕ → ImageError → Type 0
IsWordFault l n low word raw (OutOfOrder line) = (line ≡ n) × (word < low)
IsWordFault l n low word raw (WordOutOfRange line) = (line ≡ n) × (low ≤ word) × (words_of l ≤ word)
IsWordFault l n low word raw (Default line) = (line ≡ n) × (low ≤ word) × (word < words_of l) × (raw ≡ initial_of l.kind word)
IsWordFault l n low word raw BadHeader = ⊥
IsWordFault l n low word raw (BadLine line) = ⊥
IsWordFault l n low word raw NoMemory = ⊥

-- a word line as it may stand there
pub record IsGoodWord (l : Layout) (low word raw : ℕ) : Type 0 where
  pub order : low ≤ word
  pub within : word < words_of l
  pub told : raw ≢ initial_of l.kind word

-- the first fault of the lines from line n on, behind the header and the words below low
abbrev pub IsBodyFault : Layout → ℕ → ℕ → List (List ℕ) → ImageError → Type 0
IsBodyFault l n low [] fault = fault ≡ BadLine n
IsBodyFault l n low (line ∷ lines) fault =
    ((line ≡ codes "end") × (lines ≢ []) × (fault ≡ BadLine (suc n)))
    ⊎ (((word : ℕ) × (raw : ℕ) × IsWordLine line word raw × IsWordFault l n low word raw fault)
    ⊎ (((word : ℕ) × (raw : ℕ) × IsWordLine line word raw × IsGoodWord l low word raw × IsBodyFault l (suc n) (suc word) lines fault)
    ⊎ ((line ≢ codes "end") × ((word raw : ℕ) → IsWordLine line word raw → ⊥) × (fault ≡ BadLine n))))

-- the first fault of a text
abbrev pub IsImageFault : List ℕ → ImageError → Type 0
IsImageFault bytes fault =
    (IsBadHeader (lines_of bytes) × (fault ≡ BadHeader))
    ⊎ ((l : Layout) × Accepted l × (take 3 (lines_of bytes) ≡ header_lines l) × IsBodyFault l 4 0 (drop 3 (lines_of bytes)) fault)

-- a text is that of some image, and it has some first fault
abbrev pub IsSomeImageText : List ℕ → Type 0
IsSomeImageText bytes = (l : Layout) × (words : List ℕ) × Accepted l × IsImageText bytes l words

abbrev pub HasFault : List ℕ → Type 0
HasFault bytes = (fault : ImageError) × IsImageFault bytes fault

-- an error of reading a text is its first fault, unless memory ran out
abbrev pub IsErrorOf : List ℕ → ImageError → Type 0
IsErrorOf bytes NoMemory = Unit {0}
IsErrorOf bytes BadHeader = IsImageFault bytes BadHeader
IsErrorOf bytes (BadLine line) = IsImageFault bytes (BadLine line)
IsErrorOf bytes (OutOfOrder line) = IsImageFault bytes (OutOfOrder line)
IsErrorOf bytes (WordOutOfRange line) = IsImageFault bytes (WordOutOfRange line)
IsErrorOf bytes (Default line) = IsImageFault bytes (Default line)

-- the same of the lines behind the header
abbrev pub IsBodyErrorOf : Layout → List (List ℕ) → ImageError → Type 0
IsBodyErrorOf l lines NoMemory = Unit {0}
IsBodyErrorOf l lines BadHeader = IsBodyFault l 4 0 lines BadHeader
IsBodyErrorOf l lines (BadLine line) = IsBodyFault l 4 0 lines (BadLine line)
IsBodyErrorOf l lines (OutOfOrder line) = IsBodyFault l 4 0 lines (OutOfOrder line)
IsBodyErrorOf l lines (WordOutOfRange line) = IsBodyFault l 4 0 lines (WordOutOfRange line)
IsBodyErrorOf l lines (Default line) = IsBodyFault l 4 0 lines (Default line)
