-- An image that is seen in its text: its words, and the lines that are lent.
use Rattle.std.specs.Prelude.{◌≡◌, ◌≢◌, ℕ, ◌^◌, ◌<◌, List, length, slice_index, slice_index_or}
use Rattle.std.specs.List.{AllByRecursion}
use denote.Ref.{Bor}
use Rattle.flit_words.specs.declared.layouts.Layout.{Layout}
use Rattle.flit_words.specs.Layouts.{Accepted, words_of, initial_of}
pub use Rattle.flit_model.specs.Recovery.{IsImageLayout}
use Rattle.flit_image.specs.ImageTexts.{word_line}

-- what a caller sees of it
pub record ViewedImage : Type 0 where
  pub layout : Layout
  pub words : List ℕ

-- each word that is not fresh has its line at its place
pub record HaveLines (l : Layout) (words : List ℕ) (lines : List (Bor (List ℕ))) : Type 0 where
  pub raw : AllByRecursion (λ raw. raw < 2 ^ 64) words
  pub many : length lines ≡ length words
  pub lent : (word : ℕ) (d : Bor (List ℕ)) → word < length words → slice_index words word ≢ initial_of l.kind word →
      (slice_index_or lines word d).now ≡ word_line word (slice_index words word)

-- all words of the layout are there, with their lines
pub record IsView (l : Layout) (words : List ℕ) (lines : List (Bor (List ℕ))) : Type 0 where
  pub accepted : Accepted l
  pub whole : length words ≡ words_of l
  pub have : HaveLines l words lines
