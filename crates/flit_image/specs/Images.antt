-- The layout of an image's words, and an image with values in the place of one without.
use Rattle.std.specs.Prelude.{◌≡◌, ◌++◌, replicate, true}
use Rattle.flit_words.specs.Layouts.{last_row_of}
use Rattle.flit_model.specs.declared.found.Image.{Image}
pub use Rattle.flit_model.specs.Recovery.{layout_of, IsWhole, SameShape}

-- the new image is the old one with values, each of them 0
pub record IsLifted (old new : Image) : Type 0 where
  pub shape : SameShape (layout_of new) (record (layout_of old) { values = true })
  pub words : new.words.items ≡ old.words.items ++ replicate (last_row_of (layout_of old)) 0
