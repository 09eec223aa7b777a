use Rattle.std.proofs.Common.{refl, arith}
use Rattle.flit_plain.proofs.ChainWalks.{adds_chain}
use Rattle.flit_plain.proofs.chains.reached_by_chains.Goals as goal

pub loop-head-preserved : goal.loop-head-preserved
loop-head-preserved c = record {
  rows = λ chain h. (adds_chain c.args.layout.now c.args.words.now chain c.loop-head.head _ _ (c.loop-head.invariant.rows chain h)
      (c.loop-head.invariant.pairs chain h) (c.in_ok-reach_chain.ensures (chain c.loop-head.head) (h.chains c.loop-head.head (omega arith))) _ refl).0;
  pairs = λ chain h. (adds_chain c.args.layout.now c.args.words.now chain c.loop-head.head _ _ (c.loop-head.invariant.rows chain h)
      (c.loop-head.invariant.pairs chain h) (c.in_ok-reach_chain.ensures (chain c.loop-head.head) (h.chains c.loop-head.head (omega arith))) _ refl).1;
}
