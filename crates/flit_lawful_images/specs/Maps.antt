-- The map of an image.
use Rattle.std.specs.Prelude.{◌≡◌, ℕ, List, length}
use Rattle.std.specs.FinMap as map_of_pairs
use Rattle.flit_model.specs.Images.{Recovers}
use Rattle.flit_model.specs.Maps.{Map}
use Rattle.flit_model.specs.Recovery.{IsRecovery, layout_of}
use Rattle.flit_model.specs.declared.found.Image.{Image}
use Rattle.flit_model.specs.declared.found.Recovered.{Recovered}

-- the image is lawful for its own layout, and this is its map
abbrev pub IsMapOf : Image → Map → Type 0
IsMapOf i m = (free : List ℕ) × Recovers (layout_of i) i.words.items m free

-- what was found are the keys of a map in rising order, and their values in the same order
pub record HasPairsOf (m : Map) (found : Recovered) : Type 0 where
  pub keys : found.keys.items ≡ map_of_pairs.keys m
  pub values : found.values.items ≡ map_of_pairs.values m

-- so many keys has what recovery finds in the image: the keys of its map in rising order, with their values and the free rows
pub record HasSoManyKeys (i : Image) (count : ℕ) : Type 0 where
  pub keys : List ℕ
  pub values : List ℕ
  pub free : List ℕ
  pub recovery : IsRecovery (layout_of i) i.words.items keys values free
  pub pairs : (m : Map) → IsMapOf i m → (keys ≡ map_of_pairs.keys m) × (values ≡ map_of_pairs.values m)
  pub count_is : count ≡ length keys
