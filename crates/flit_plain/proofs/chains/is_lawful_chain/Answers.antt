use Rattle.std.proofs.Common.{◌+◌, ap, arith}
use Rattle.flit_plain.proofs.ChainWalks.{lawful_step}
use Rattle.flit_plain.proofs.chains.is_lawful_chain.Goals as goal

pub loop-row-preserved : goal.loop-row-preserved
loop-row-preserved c =
    let step = lawful_step c.args.layout.now c.args.words.now c.args.head c.loop-row.low c.loop-row.word c.in-Row.row _ _ c.in-Row.ensures
    (ap (λ n. n + 1) c.key_of-low.ensures) c.row_word-word.ensures.is in
    record {
      word_within = omega arith;
      low_most = omega (arith, c.in-Row.ensures.stands.within);
      same = (λ w. step.0 (c.loop-row.invariant.same.0 w), λ w. c.loop-row.invariant.same.1 (step.1 w));
    }
