use Rattle.std.proofs.Common.{arith, ap, ◌∙◌, length}
use Rattle.flit_sched.proofs.ImageLaws.{takes_one, takes_none, mapped_long}
use Rattle.flit_sched.proofs.images.take_ahead.Goals as goal
use Rattle.flit_sched.proofs.images.take_ahead.Goals.{then-word-words, else-word-words}

pub index_mut-requires : goal.index_mut-requires
index_mut-requires c =
    let long = ap length c.loop-word.invariant ∙ mapped_long _ 0 c.args.words in
    let o = c.loop-word.image.ok in
    let k = c.if-word-words.true in
    omega (arith, long, o.0, k)

pub loop-word-preserved : goal.loop-word-preserved
loop-word-preserved c = elim c.if-word-words.branch [
  | then-word-words w ↦ ap (λ v. v.items) w.image-is ∙ takes_one c.args.machine.now c.args.chosen.now c.loop-word.word-index 0 c.loop-word-test.true
      c.args.words c.loop-word.image.items w.kept_word.result c.loop-word.invariant w.if-word-words.true w.kept_word.ensures
  | else-word-words w ↦ ap (λ v. v.items) w.image-is ∙ takes_none c.args.machine.now c.args.chosen.now c.loop-word.word-index 0 c.loop-word-test.true
      c.args.words c.loop-word.image.items c.loop-word.invariant w.if-word-words.false
]
