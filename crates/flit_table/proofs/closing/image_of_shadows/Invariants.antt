use Rattle.std.proofs.Common.{◌≡◌, ◌≤◌, false, map}
use Rattle.std.specs.List.{range_with_len}
use Rattle.std.specs.Mem.Slots.{slots_items}
use Rattle.std.specs.Vec.{vec_len, vec_capacity}
use Rattle.flit_table.specs.Closing.{word_in}
use Rattle.flit_table.proofs.closing.image_of_shadows.Given as goal

abbrev pub invariant-loop-word : goal.invariant-loop-word
invariant-loop-word l =
    (vec_len l.image ≡ l.word)
    × (l.count ≤ vec_capacity l.image)
    × (l.image.items ≡ map (λ i. word_in (slots_items l.closed.words) l.count false i) (range_with_len 0 l.word))
