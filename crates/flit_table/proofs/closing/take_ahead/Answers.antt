use Rattle.std.proofs.Common.{arith, ap, ◌∙◌, length}
use Rattle.std.specs.Mem.Slots.{slots_items}
use Rattle.flit_table.specs.Closing.{word_in}
use Rattle.flit_table.proofs.ChosenWords.{takes_one, takes_none, mapped_long}
use Rattle.flit_table.proofs.closing.take_ahead.Goals as goal
use Rattle.flit_table.proofs.closing.take_ahead.Goals.{then-word-count, else-word-count}

pub index_mut-requires : goal.index_mut-requires
index_mut-requires c =
    let long = ap length c.loop-word.invariant ∙ mapped_long _ 0 c.args.count in
    let o = c.loop-word.image.ok in
    let k = c.if-word-count.true in
    omega (arith, long, o.0, k)

pub loop-word-preserved : goal.loop-word-preserved
loop-word-preserved c = elim c.if-word-count.branch [
  | then-word-count w ↦ ap (λ v. v.items) w.image-is ∙ takes_one (word_in (slots_items c.args.closed.now.words) c.args.count) c.args.chosen.now
      c.loop-word.word-index 0 c.loop-word-test.true c.args.count c.loop-word.image.items w.image_word.result c.loop-word.invariant w.if-word-count.true
      w.image_word.ensures
  | else-word-count w ↦ ap (λ v. v.items) w.image-is ∙ takes_none (word_in (slots_items c.args.closed.now.words) c.args.count) c.args.chosen.now
      c.loop-word.word-index 0 c.loop-word-test.true c.args.count c.loop-word.image.items c.loop-word.invariant w.if-word-count.false
]
