use Rattle.std.proofs.Common.{◌∙◌, ap}
use Rattle.flit_speed.proofs.samples.contains.Goals as goal

pub loop-init : goal.loop-init
loop-init c = c.in_ok-bench.ensures

pub call-requires-clause-alone : goal.call-requires-clause-alone
call-requires-clause-alone c = c.loop.invariant.alone

pub call-requires-clause-ended : goal.call-requires-clause-ended
call-requires-clause-ended c = c.loop.invariant.reply

pub loop-preserved : goal.loop-preserved
loop-preserved c = record {
  layout = ap (λ s. s.layout) c.call.ensures.structure ∙ c.loop.invariant.layout;
  alone = c.call.ensures.alone;
  reply =
      c.call.ensures.ended;
}
