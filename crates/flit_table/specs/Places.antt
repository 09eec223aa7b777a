-- Where an event finds what it reads and changes in the table.
use Rattle.std.specs.Prelude.{ℕ}
use Rattle.flit_words.specs.declared.layouts.Layout.{Layout}
use Rattle.flit_words.specs.Layouts.{word_place, shadow_place, slot_place, counter_place}
use Rattle.flit_model.specs.declared.events.Event.{Event}
use Rattle.flit_model.specs.declared.events.Event.TheVariants.{Load, ReadTag, Raise, Lower, Exchange, Persist, Store, Draw}

abbrev pub place_in : Layout → Event → ℕ
place_in l (Load word) = word_place word
place_in l (ReadTag slot) = slot_place l slot
place_in l (Raise slot) = slot_place l slot
place_in l (Lower slot) = slot_place l slot
place_in l (Exchange word from to) = word_place word
place_in l (Persist word kept) = shadow_place l word
place_in l (Store word to) = word_place word
place_in l Draw = counter_place l
