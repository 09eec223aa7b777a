-- What one step along a chain tells.
use Rattle.std.specs.Prelude.{◌≡◌, ℕ, List, []}
use Rattle.flit_words.specs.declared.layouts.Layout.{Layout}
use Rattle.flit_model.specs.Lists.{link_in, IsListLink}
use Rattle.flit_plain.specs.declared.chains.Next.{Next}
use Rattle.flit_plain.specs.declared.chains.Next.TheVariants.{Broken, End, Row}
use Rattle.flit_plain.specs.Walks.{MayStand, IsLawfulFrom}

-- a link word leads on to a row that may stand there
pub record LeadsOn (l : Layout) (image : List ℕ) (head low word row : ℕ) : Type 0 where
  pub named : (link_in image word).row ≡ row
  pub link : IsListLink l (link_in image word)
  pub stands : MayStand l image head low row

-- no lawful chain goes on from the word, or it ends there, or it goes on with a row
abbrev pub IsNextAt : Layout → List ℕ → ℕ → ℕ → ℕ → Next → Type 0
IsNextAt l image head low word Broken = (rows : List ℕ) → ¬ (IsLawfulFrom l image head low word rows)
IsNextAt l image head low word End = IsLawfulFrom l image head low word []
IsNextAt l image head low word (Row row) = LeadsOn l image head low word row
