-- How many keys recovery finds in a lawful image.
use Rattle.std.specs.Prelude.{◌≡◌, ℕ, List, length}
use Rattle.flit_words.specs.declared.layouts.Layout.{Layout}
use Rattle.flit_model.specs.Recovery.{IsRecovery}

-- the image is lawful, and what recovery answers has so many keys
pub record HasKeys (l : Layout) (image : List ℕ) (count : ℕ) : Type 0 where
  pub keys : List ℕ
  pub values : List ℕ
  pub free : List ℕ
  pub recovery : IsRecovery l image keys values free
  pub count_is : count ≡ length keys
