use Rattle.std.proofs.Common.{◌≤◌, sym, subst}
use Rattle.flit_sched.proofs.AloneLaws.{turn_long}
use Rattle.flit_speed.proofs.scheduled.run_out.Goals as goal

pub loop-made-preserved : goal.loop-made-preserved
loop-made-preserved g c =
    let r = c.loop-made.run in
    let long = turn_long (g.S.Structure.meaning r.structure) 1 r.run c.turn.new.self.run c.turn.result c.turn.ensures.is in
    (c.loop-made.invariant.0, subst (λ n. 1 ≤ n) (sym long) c.loop-made.invariant.1)
