-- Images with their numbers, and what recovery answers for a lawful one.
use Rattle.std.specs.Prelude.{◌≡◌, ℕ, Bool, List, length}
use Rattle.std.specs.FinMap as map_of_pairs
use Rattle.flit_words.specs.declared.layouts.Kind.{Kind}
use Rattle.flit_words.specs.declared.layouts.Layout.{Layout}
use Rattle.flit_words.specs.declared.limits.TheConstants.{GREATEST_VERSION}
use Rattle.flit_words.specs.Layouts.{Accepted, words_of}
use Rattle.flit_model.specs.declared.found.Image.{Image}
use Rattle.flit_model.specs.Maps.{Map}
use Rattle.flit_model.specs.Images.{Recovers}

-- the layout of an image's words: no slots, and the limits on workers and versions play no part
abbrev pub image_layout : Kind → ℕ → ℕ → Bool → Layout
image_layout kind buckets rows values = record {
  kind = kind;
  buckets = buckets;
  rows = rows;
  slots = 0;
  workers = 1;
  limit = GREATEST_VERSION;
  values = values;
}

abbrev pub layout_of : Image → Layout
layout_of i = image_layout i.kind i.buckets i.rows i.values

abbrev pub IsImageLayout : Layout → Type 0
IsImageLayout l = l ≡ image_layout l.kind l.buckets l.rows l.values

-- the layouts have the same words: slots, workers and the limit play no part
pub record SameShape (l k : Layout) : Type 0 where
  pub kind : l.kind ≡ k.kind
  pub buckets : l.buckets ≡ k.buckets
  pub rows : l.rows ≡ k.rows
  pub values : l.values ≡ k.values

-- the image has the layout's kind, buckets, rows and values
abbrev pub IsImageOf : Layout → Image → Type 0
IsImageOf l i = SameShape (layout_of i) l

-- the numbers are within the limits, and there are as many words as the layout has
pub record IsWhole (i : Image) : Type 0 where
  pub accepted : Accepted (layout_of i)
  pub words : length i.words.items ≡ words_of (layout_of i)

-- the keys, values and free rows are those of a lawful image
pub record IsRecovery (l : Layout) (image : List ℕ) (keys values free : List ℕ) : Type 0 where
  pub map : Map
  pub recovers : Recovers l image map free
  pub keys_are : keys ≡ map_of_pairs.keys map
  pub values_are : values ≡ map_of_pairs.values map
