-- When a map of at most one key may be opened. It has a layout, a placement and a pool of free rows.
use Rattle.std.specs.Prelude.{◌≡◌, ℕ, ◌+◌, ◌<◌, false, List, slice_index}
use Rattle.flit_words.specs.declared.layouts.Layout.{Layout}
use Rattle.flit_words.specs.Layouts.{words_of}
use Rattle.flit_model.specs.Lists.{link_in}
use Rattle.flit_place.specs.Tags.{Place, IsSlot}
use Rattle.flit_structure.specs.Moments.{Opening}
use Rattle.flit_structure.specs.Lawful.{IsOpening}
use Rattle.flit_one_key.specs.Steps.{key_word, links_none}

-- It opens at a lawful image with its free row, or with none, but not where the row that the head links is marked:
-- that row would be no key's, and no call would unlink it. Each word has one of the layout's slots.
pub record Opens (l : Layout) (p : Place) (free : List ℕ) (o : Opening) : Type 0 where
  pub lawful : IsOpening l o
  pub pool : free ≡ o.free
  pub unmarked : links_none (slice_index o.words 0) ≡ false → (link_in o.words (key_word l + 1)).mark ≡ false
  pub slots : (word : ℕ) → word < words_of l → IsSlot p.counted l.slots (p.slot word)
