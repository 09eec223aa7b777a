-- The row that a list's or a hash table's operation links or marks, and its laws.
use Rattle.std.specs.Prelude.{◌≡◌, ℕ, ◌+◌, ◌<◌, List}
use Rattle.flit_words.specs.declared.layouts.Layout.{Layout}
use Rattle.flit_words.specs.Layouts.{words_of}
use Rattle.flit_words.specs.Words.{version_of}
use Rattle.flit_model.specs.States.{word_at, shadow_at}
use Rattle.flit_model.specs.Effects.{after}
use Rattle.flit_model.specs.declared.events.Event.TheVariants.{Store}
use Rattle.flit_place.specs.Tags.{Place}
use Rattle.flit_structure.specs.Moments.{Moment}
use Rattle.flit_list_steps.specs.declared.operations.Path.{Path}
use Rattle.flit_list_steps.specs.Operations.{At, Head, Next, Key, Confirming, Help, Row, Words, RowValue, Link, Mark, Tidy, Value, Ends, Rests, HeldOp}
use Rattle.flit_list_steps.specs.Steps.{row_of, row_at}
use Rattle.flit_list_laws.specs.ListCrew.{IsOfLists}
use Rattle.flit_list_structure.specs.ListStructure.{lists}
use Rattle.flit_marked_laws.specs.Marked.{MarkedLaws}

-- the row to which an insert's new link leads; else the row that the search has found
abbrev pub told_at : Path → At → ℕ
told_at path (Head m) = row_at path
told_at path (Next m) = row_at path
told_at path (Key m) = row_at path
told_at path (Confirming goal which m) = row_at path
told_at path (Help m) = row_at path
told_at path (Row m) = row_at path
told_at path (Words m) = row_at path
told_at path (RowValue m) = row_at path
told_at path (Link m) = row_of m.to
told_at path (Mark m) = row_at path
told_at path (Tidy m) = row_at path
told_at path (Value m) = row_at path
told_at path (Ends m) = row_at path
told_at path (Rests hand) = row_at path

abbrev pub told_row : HeldOp → ℕ
told_row op = told_at op.path op.at

-- Over each layout of a list or a hash table, with each placement and each pool, these laws hold.
abbrev pub ListsAreMarked : Type 0
ListsAreMarked = (l : Layout) (p : Place) (free : List ℕ) → IsOfLists l → MarkedLaws (lists l p free) told_row

-- The condition on such a Store is needed: after a Store of the next version to a word that is ahead already no moment holds.
abbrev pub SecondStoresBreak : Type 0
SecondStoresBreak = (l : Layout) (p : Place) (free : List ℕ) → IsOfLists l → (M : Moment HeldOp) (word to : ℕ) → (lists l p free).holds M →
    word < words_of l → version_of (word_at M.state word) ≡ version_of (shadow_at M.state word) + 1 → version_of to ≡ version_of (word_at M.state word) + 1 →
    (lists l p free).holds (record M { state = after M.state (Store word to) }) → ⊥
