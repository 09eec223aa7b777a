-- The start image.
use Rattle.std.specs.Prelude.{ℕ, true, Option, Some, None, List}
use Rattle.flit_words.specs.declared.layouts.Layout.{Layout}
use Rattle.flit_model.specs.declared.found.Image.{Image}
use Rattle.flit_model.specs.Recovery.{IsWhole, IsImageOf}

-- an image with values of the layout's structure and rows
pub record IsStartOf (l : Layout) (image : Image) : Type 0 where
  pub whole : IsWhole image
  pub shape : IsImageOf (record l { values = true }) image

abbrev pub words_in : Option Image → Option (List ℕ)
words_in None = None
words_in (Some image) = Some image.words.items
