-- The words of the tree's edges: which row has which, what they lead to, and which value may follow which. In a tree's
-- layout there are no heads, and a row has three words: its key, its left edge and its right edge.
use Rattle.std.specs.Prelude.{◌≡◌, ◌⊎◌, ℕ, ◌+◌, ◌-◌, ◌*◌, ◌/◌, ◌%◌, ◌<◌, ◌==◌, Bool, true, false, if◌then◌else◌}
use Rattle.flit_words.specs.Words.{value_of, version_of}

-- the edge words of a row, and the row of an edge word
unfoldable pub left : ℕ → ℕ
left row = 3 * row - 2

unfoldable pub right : ℕ → ℕ
right row = 3 * row - 1

unfoldable pub own : ℕ → ℕ
own edge = (edge + 2) / 3

-- the other edge word of its row
unfoldable pub other : ℕ → ℕ
other edge = if edge % 3 == 1 then edge + 1 else edge - 1

-- What a word of an edge says, as link_of does: the row that it leads to, its flag (the mark of a link), and its frozen
-- bit. A link of the tree names no remover, so that all but the two lowest bits is the row.
unfoldable pub row_of : ℕ → ℕ
row_of word = value_of word / 4

unfoldable pub flag_of : ℕ → Bool
flag_of word = value_of word % 2 == 1

unfoldable pub frozen_of : ℕ → Bool
frozen_of word = value_of word / 2 % 2 == 1

-- an edge without bits
pub record IsPlain (word : ℕ) : Type 0 where
  pub unflagged : flag_of word ≡ false
  pub unfrozen : frozen_of word ≡ false

-- a value of an edge may follow another: its version is later, what is frozen stays as it is, and what is flagged keeps
-- its row and its flag
abbrev pub Follows : ℕ → ℕ → Type 0
Follows a b =
    (a ≡ b) ⊎ ((version_of a < version_of b) × (frozen_of a ≡ false) × (flag_of a ≡ true → (row_of b ≡ row_of a) × (flag_of b ≡ true)))
