use Rattle.std.proofs.Common.{refl, arith}
use Rattle.std.proofs.lemmas.Bool.{both_ways, false≢true}
use borrow.Author.Count.{below_more}
use Rattle.flit_plain.proofs.WholeImages.{lawful_list, list_chain}
use Rattle.flit_plain.proofs.images.is_lawful_list.Goals as goal

pub returns-then-not-is_lawful_chain : goal.returns-then-not-is_lawful_chain
returns-then-not-is_lawful_chain c = (
  (λ e. absurd (false≢true e)),
  (λ w. absurd (both_ways c.is_lawful_chain.result c.if-not-is_lawful_chain.true
      (c.is_lawful_chain.ensures.1 (list_chain c.args.layout.now c.args.words.now w.0 w.1 c.loop-head.head c.loop-head-test.true)))),
)

pub loop-head-preserved : goal.loop-head-preserved
loop-head-preserved c = below_more _ _ c.loop-head.invariant (c.is_lawful_chain.ensures.0 c.if-not-is_lawful_chain.false)

pub returns : goal.returns
returns c = (
  (λ _. lawful_list c.args.layout.now c.args.words.now c.requires.image.whole c.requires.untagged (λ h b. c.loop-head.invariant h (omega arith))),
  (λ _. refl),
)
