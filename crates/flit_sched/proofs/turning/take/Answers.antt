use Rattle.std.proofs.Common.{ap, ◌∙◌}
use Rattle.flit_sched.specs.declared.seats.At.TheVariants.{Call as At_call}
use Rattle.flit_sched.specs.Seats.{doing_of}
use Rattle.flit_sched.proofs.turning.take.Goals as goal

pub take-requires : goal.take-requires
take-requires g c =
    c.requires.told c.in-Call.op c.in-Some.going.call c.in-Some.going.begun
    (ap (doing_of (g.S.Structure.meaning c.args.structure.now) c.args.seat.now.name) (c.in-Call.is ∙ ap (At_call c.in-Call.op) c.in-Some.is))
