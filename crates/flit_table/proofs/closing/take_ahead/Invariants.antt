use Rattle.std.proofs.Common.{◌≡◌, ◌==◌, map, take}
use Rattle.std.specs.List.{range_with_len, list_any}
use Rattle.std.specs.Mem.Slots.{slots_items}
use Rattle.flit_table.specs.Closing.{word_in}
use Rattle.flit_table.proofs.closing.take_ahead.Given as goal

abbrev pub invariant-loop-word : goal.invariant-loop-word
invariant-loop-word l = l.image.items ≡ map (λ i. word_in (slots_items l.closed.words) l.count (list_any (λ v. v == i) (take l.word-index l.chosen)) i)
    (range_with_len 0 l.count)
