use Rattle.std.proofs.Common.{arith}
use Rattle.flit_plain.proofs.Entries.{entries_start, entries_step}
use Rattle.flit_plain.proofs.images.by_rising_keys.Goals as goal

pub loop-left-init : goal.loop-left-init
loop-left-init c = record { within = omega arith; made = entries_start c.args.pairs.now _ c.new-map.ensures.empty }

pub loop-left-preserved : goal.loop-left-preserved
loop-left-preserved c = record {
  within = omega arith;
  made = entries_step c.args.pairs.now c.loop-left.map.entries _ _ c.loop-left.left _ (omega arith) (omega arith) c.loop-left.invariant.made
      c.in_ok-insert.ensures.entries;
}
