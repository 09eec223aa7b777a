use Rattle.std.proofs.Common.{arith}
use Rattle.flit_sched.proofs.SeatLaws.{idle_at, idle_call}
use Rattle.flit_sched.proofs.turning.begin_call.Goals as goal

pub overflow_add-seat : goal.overflow_add-seat
overflow_add-seat g c =
    let h = idle_at (g.S.Structure.meaning c.args.structure.now) c.args.seat.now.name c.args.seat.now.at c.requires.rests in
    let k = c.requires.may h.0 h.1 in
    omega (arith, k.1)

pub start_again-requires-clause-may : goal.start_again-requires-clause-may
start_again-requires-clause-may g c =
    (c.requires.may _
    (idle_call (g.S.Structure.meaning c.args.structure.now) c.args.seat.now.name c.args.seat.now.at c.in-Call.op c.in-Call.under_way c.in-Call.is
    c.requires.rests)).0
