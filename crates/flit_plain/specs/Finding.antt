-- What recovery finds in an image.
use Rattle.std.specs.Prelude.{◌≡◌, ℕ, Bool, not, List}
use Rattle.std.specs.FinMap as map_of_pairs
use Rattle.flit_words.specs.declared.layouts.Layout.{Layout}
use Rattle.flit_model.specs.Maps.{Map}
use Rattle.flit_model.specs.Lists.{stands_in}
use Rattle.flit_model.specs.Images.{Recovers}
use Rattle.flit_plain.specs.declared.images.Found.{Found}

-- the image is lawful, the pairs are its map's, and the free rows are its free rows
pub record Finds (l : Layout) (image : List ℕ) (found : Found) : Type 0 where
  pub map : Map
  pub recovers : Recovers l image map found.free.items
  pub pairs : map_of_pairs.entries map ≡ found.pairs.items

-- a number that isn't in a list
abbrev pub is_absent : List ℕ → ℕ → Bool
is_absent ns n = not (stands_in ns n)
