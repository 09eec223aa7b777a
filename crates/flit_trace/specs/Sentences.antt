-- What one line of a trace says, and how it is spelled: words with one space, 32, between two of them.
use Rattle.std.specs.Prelude.{◌≡◌, ℕ, ◌^◌, ◌<◌, List, ◌∷◌, ◌++◌, codes, Some, None}
use Rattle.std.specs.Fmt.{decimal}
use Rattle.flit_words.specs.declared.layouts.Kind.TheVariants.{List as List_kind, Hash, Tree}
use Rattle.flit_image.specs.ImageTexts.{structure_line, word_line}
use Rattle.flit_trace.specs.declared.sentences.Sentence.{Sentence}
use Rattle.flit_trace.specs.declared.sentences.Sentence.TheVariants.{Version, Structure, Adjacent, Hashed, Packed, Lines, Rows, Workers, Versions, Start, Word, Begin, Insert, Remove, Contains, Get, Evict, Stop, Turn, Ahead, AheadAll, End}

-- two numbers
abbrev pub two_numbers : ℕ → ℕ → List ℕ
two_numbers m n = decimal m ++ 32 ∷ decimal n

-- a line of a worker: its number, then the name of the call, then what the call is given
abbrev pub worker_line : ℕ → List ℕ → List ℕ → List ℕ
worker_line worker name given = decimal worker ++ 32 ∷ (name ++ 32 ∷ given)

-- the line that says the sentence
abbrev pub spelled : Sentence → List ℕ
spelled (Version number) = codes "flit " ++ decimal number
spelled (Structure kind buckets) = structure_line kind buckets
spelled Adjacent = codes "place adjacent"
spelled (Hashed slots) = codes "place hashed " ++ decimal slots
spelled Packed = codes "place packed"
spelled Lines = codes "place lines"
spelled (Rows rows) = codes "rows " ++ decimal rows
spelled (Workers workers) = codes "workers " ++ decimal workers
spelled (Versions limit) = codes "versions " ++ decimal limit
spelled (Start version) = codes "start " ++ decimal version
spelled (Word word raw) = word_line word raw
spelled Begin = codes "begin"
spelled (Insert worker key None) = worker_line worker (codes "insert") (decimal key)
spelled (Insert worker key (Some value)) = worker_line worker (codes "insert") (two_numbers key value)
spelled (Remove worker key) = worker_line worker (codes "remove") (decimal key)
spelled (Contains worker key) = worker_line worker (codes "contains") (decimal key)
spelled (Get worker key) = worker_line worker (codes "get") (decimal key)
spelled (Evict worker word) = worker_line worker (codes "evict") (decimal word)
spelled (Stop worker events) = codes "stop " ++ two_numbers worker events
spelled (Turn worker events) = codes "turn " ++ two_numbers worker events
spelled (Ahead word) = codes "ahead " ++ decimal word
spelled AheadAll = codes "ahead all"
spelled End = codes "end"

-- each number has at most ten digits and each raw word is one; a list has 1 for its buckets and a tree 0
abbrev pub IsSmall : Sentence → Type 0
IsSmall (Version number) = number < 10 ^ 10
IsSmall (Structure List_kind buckets) = buckets ≡ 1
IsSmall (Structure Hash buckets) = buckets < 10 ^ 10
IsSmall (Structure Tree buckets) = buckets ≡ 0
IsSmall Adjacent = Unit {0}
IsSmall (Hashed slots) = slots < 10 ^ 10
IsSmall Packed = Unit {0}
IsSmall Lines = Unit {0}
IsSmall (Rows rows) = rows < 10 ^ 10
IsSmall (Workers workers) = workers < 10 ^ 10
IsSmall (Versions limit) = limit < 10 ^ 10
IsSmall (Start version) = version < 10 ^ 10
IsSmall (Word word raw) = (word < 10 ^ 10) × (raw < 2 ^ 64)
IsSmall Begin = Unit {0}
IsSmall (Insert worker key None) = (worker < 10 ^ 10) × (key < 10 ^ 10)
IsSmall (Insert worker key (Some value)) = (worker < 10 ^ 10) × (key < 10 ^ 10) × (value < 10 ^ 10)
IsSmall (Remove worker key) = (worker < 10 ^ 10) × (key < 10 ^ 10)
IsSmall (Contains worker key) = (worker < 10 ^ 10) × (key < 10 ^ 10)
IsSmall (Get worker key) = (worker < 10 ^ 10) × (key < 10 ^ 10)
IsSmall (Evict worker word) = (worker < 10 ^ 10) × (word < 10 ^ 10)
IsSmall (Stop worker events) = (worker < 10 ^ 10) × (events < 10 ^ 10)
IsSmall (Turn worker events) = (worker < 10 ^ 10) × (events < 10 ^ 10)
IsSmall (Ahead word) = word < 10 ^ 10
IsSmall AheadAll = Unit {0}
IsSmall End = Unit {0}

-- the line says the sentence
pub record Says (line : List ℕ) (s : Sentence) : Type 0 where
  pub is : line ≡ spelled s
  pub small : IsSmall s
