use Rattle.std.proofs.Common.{arith}
use Rattle.flit_sched.proofs.TakenMaps.{waiting_start, waiting_step}
use Rattle.flit_sched.proofs.histories.waiting_updates.Goals as goal

pub loop-left-init : goal.loop-left-init
loop-left-init g c = record { within = omega arith; made = waiting_start c.args.players.now _ c.new-updates.ensures.empty }

pub loop-left-preserved-in_ok-insert : goal.loop-left-preserved-in_ok-insert
loop-left-preserved-in_ok-insert g c = record {
  within = omega arith;
  made =
      waiting_step c.args.players.now _ _ _ _ _ c.in-Some.waiting (omega arith) (omega arith) c.in-Some.is c.loop-left.invariant.made
      c.in_ok-insert.ensures.entries;
}
