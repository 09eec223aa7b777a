use Rattle.flit_image.proofs.LiftedWords.{one_zero_more}
use Rattle.flit_image.proofs.lifts.with_zeros.Goals as goal

pub loop-row-preserved : goal.loop-row-preserved
loop-row-preserved c = one_zero_more c.args.words.now _ _ c.loop-row._row c.loop-row.invariant c.in_ok-push.ensures.items
