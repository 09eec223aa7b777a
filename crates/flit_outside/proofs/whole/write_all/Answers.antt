use Rattle.std.proofs.Common.{rules}
use Rattle.std.proofs.lemmas.List.{take_rest}
use Rattle.flit_outside.proofs.Taking.{IfSome-taken_more}
use Rattle.flit_outside.proofs.whole.write_all.Goals as goal

pub loop-written-preserved : goal.loop-written-preserved
loop-written-preserved g c = record {
  within = search rules;
  so_far = IfSome-taken_more _ _ _ _ _ _ _ (take_rest c.args.bytes.now c.loop-written.written) c.loop-written.invariant.so_far c.in_ok-written.ensures.told;
  steady = search rules;
  nothing = search rules;
}
