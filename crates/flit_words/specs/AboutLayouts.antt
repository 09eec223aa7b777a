-- The words of a layout and the places of a table are distinct.
use Rattle.std.specs.Prelude.{◌≡◌, ℕ, ◌<◌, ◌≤◌}
use Rattle.flit_words.specs.declared.layouts.Layout.{Layout}
use Rattle.flit_words.specs.Layouts.{parts_of, last_row_of, words_of, row_word_of, value_word_of, word_place, shadow_place, slot_place, counter_place}

-- the parts of rows are words of their own
abbrev pub PartsApart : Type 0
PartsApart =
    (l : Layout) (r p s q : ℕ) → 1 ≤ r → 1 ≤ s → p < parts_of l.kind → q < parts_of l.kind →
    row_word_of l r p ≡ row_word_of l s q → (r ≡ s) × (p ≡ q)

-- the parts of rows stand before the value words
abbrev pub PartsBeforeValues : Type 0
PartsBeforeValues =
    (l : Layout) (r p s : ℕ) → 1 ≤ r → r ≤ last_row_of l → p < parts_of l.kind →
    row_word_of l r p < value_word_of l s

-- value words are words of their own
abbrev pub ValuesApart : Type 0
ValuesApart =
    (l : Layout) (r s : ℕ) → 1 ≤ r → 1 ≤ s → value_word_of l r ≡ value_word_of l s → r ≡ s

-- in a table the words stand behind word 0 and before the shadows
abbrev pub WordsBeforeShadows : Type 0
WordsBeforeShadows =
    (l : Layout) (w v : ℕ) → w < words_of l → (0 < word_place w) × (word_place w < shadow_place l v)

-- the shadows stand before the slots
abbrev pub ShadowsBeforeSlots : Type 0
ShadowsBeforeSlots =
    (l : Layout) (w s : ℕ) → w < words_of l → shadow_place l w < slot_place l s

-- the slots stand before the row counter
abbrev pub SlotsBeforeCounter : Type 0
SlotsBeforeCounter =
    (l : Layout) (s : ℕ) → s < l.slots → slot_place l s < counter_place l
