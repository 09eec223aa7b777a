use Rattle.std.proofs.Common.{rules}
use Rattle.flit_table.proofs.JoinGoals.{join_asked}
use Rattle.flit_table.proofs.running.Running.join_as.Goals as goal

pub join_seat-requires : goal.join_seat-requires
join_seat-requires g c =
    join_asked g.S.Structure.meaning g.met.S.Structure.lawful c.self.inside.table.shared.key c.self.inside.table.shared.table_id c.self.inside.structure
    c.self.invariant c.args.self.now c.self.view_is
    c.args.seat.now c.args.other g.J.Starting.start c.requires.pass c.requires.other c.requires.waits

pub returns : goal.returns
returns g c = search rules
