-- What a walk through the words of an image meets: rows of the layout, rows that may stand on a chain, and what is left
-- of a lawful chain from a word on.
use Rattle.std.specs.Prelude.{◌≡◌, ℕ, ◌≤◌, List, map, length}
use Rattle.std.specs.List.{AllByRecursion}
use Rattle.flit_words.specs.declared.layouts.Layout.{Layout}
use Rattle.flit_words.specs.Layouts.{Accepted, words_of, last_row_of, head_of_key}
use Rattle.flit_words.specs.declared.limits.TheConstants.{GREATEST_KEY}
use Rattle.flit_model.specs.Lists.{link_in, key_in, IsChain, IsListLink, link_words, IsRisingFrom}

-- as many words as the layout has
pub record IsSizedImage (l : Layout) (image : List ℕ) : Type 0 where
  pub accepted : Accepted l
  pub whole : length image ≡ words_of l

-- a row of the layout
pub record IsRowOf (l : Layout) (row : ℕ) : Type 0 where
  pub least : 1 ≤ row
  pub most : row ≤ last_row_of l

-- a row may stand on the chain of a head, behind rows whose keys are all below low
pub record MayStand (l : Layout) (image : List ℕ) (head low row : ℕ) : Type 0 where
  pub given : IsRowOf l row
  pub above : low ≤ key_in l image row
  pub within : key_in l image row ≤ GREATEST_KEY
  pub bucket : head_of_key l (key_in l image row) ≡ head

-- the rest of a lawful chain of a head: the rows from a link word on, whose keys are from low on
pub record IsLawfulFrom (l : Layout) (image : List ℕ) (head low word : ℕ) (rows : List ℕ) : Type 0 where
  pub chain : IsChain l image word rows
  pub links : AllByRecursion (λ w. IsListLink l (link_in image w)) (link_words l word rows)
  pub rising : IsRisingFrom low (map (key_in l image) rows)
  pub within : AllByRecursion (λ r. key_in l image r ≤ GREATEST_KEY) rows
  pub bucket : AllByRecursion (λ r. head_of_key l (key_in l image r) ≡ head) rows
