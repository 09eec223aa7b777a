use Rattle.std.proofs.Common.{◌+◌, ap, arith}
use Rattle.flit_plain.proofs.ChainWalks.{reaching_step, reaching_stops}
use Rattle.flit_plain.proofs.chains.reach_chain.Goals as goal

pub loop-row-preserved : goal.loop-row-preserved
loop-row-preserved c = record {
  word_within = omega arith;
  low_most = omega (arith, c.in-Row.ensures.stands.within);
  on_the_way = λ rows h.
      reaching_step c.args.layout.now c.args.words.now c.args.head c.loop-row.low c.loop-row.word c.in-Row.row _ _ rows _ _ _ c.in-Row.ensures
      (ap (λ n. n + 1) c.key_of-low.ensures) c.row_word-word.ensures.is
      c.in_ok-reach_row.ensures (c.loop-row.invariant.on_the_way rows h);
}

pub returns : goal.returns
returns c rows h = reaching_stops c.args.layout.now c.args.words.now c.args.head c.loop-row.low c.loop-row.word rows _ _ c.next_on_chain.result
    c.in_default.not-Row c.next_on_chain.ensures (c.loop-row.invariant.on_the_way rows h)
