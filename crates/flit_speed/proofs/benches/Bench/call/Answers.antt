use Rattle.std.proofs.Common.{◌+◌, sym, subst, arith}
use Rattle.flit_speed.specs.Benches.{IsAlone}
use Rattle.flit_speed.proofs.AloneLaws.{alone_may, alone_again}
use Rattle.flit_speed.proofs.benches.Bench.call.Goals as goal

pub start_again-requires-clause-may : goal.start_again-requires-clause-may
start_again-requires-clause-may g c =
    let b = c.args.self.now in
    alone_may (g.S.Structure.meaning b.structure) (g.met.S.Structure.lawful b.structure) b.calls b.machine b.op c.requires.alone c.args.call c.requires.served
    (grind arith)

pub finishes-requires : goal.finishes-requires
finishes-requires g c =
    let b = c.args.self.now in
    let meaning = g.S.Structure.meaning b.structure in
    subst (IsAlone meaning (b.calls + 1) b.machine) (sym c.start_again.ensures)
    (alone_again meaning (g.met.S.Structure.lawful b.structure) b.calls b.machine b.op c.requires.alone c.args.call c.requires.ended
    (alone_may meaning (g.met.S.Structure.lawful b.structure) b.calls b.machine b.op c.requires.alone c.args.call c.requires.served (grind arith)))
