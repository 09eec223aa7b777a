use Rattle.flit_image.proofs.Writings.{with_ends-more}
use Rattle.flit_image.proofs.writing.write_words.Goals as goal

pub loop-word-preserved : goal.loop-word-preserved
loop-word-preserved c =
    with_ends-more c.args.layout.now c.args.words.now c.loop-word.word _ _ _ c.loop-word-test.true c.loop-word.invariant c.in_ok-write_word.ensures
