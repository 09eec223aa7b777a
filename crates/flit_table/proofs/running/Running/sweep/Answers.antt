use Rattle.std.proofs.Common.{refl}
use Rattle.flit_model.specs.declared.events.Event.TheVariants.{Load}
use Rattle.flit_table.specs.declared.views.Start.TheVariants.{Sweep}
use Rattle.flit_table.specs.Moves.{entering}
use Rattle.flit_table.proofs.CallSteps.{still_belongs}
use Rattle.flit_table.proofs.EvictSteps.{first_stepped, sweeps}
use Rattle.flit_table.proofs.running.Running.sweep.Goals as goal

pub returns-clause-pass : goal.returns-clause-pass
returns-clause-pass g c =
    let o = c.args.self.now.origin in
    let M = g.S.Structure.meaning o.structure.value in
    let laws = g.met.S.Structure.lawful o.structure.value in
    let v = c.args.seat.now.me.0 in
    still_belongs M laws o c.args.self.now refl c.args.seat.now c.step.new.seat (entering M (Sweep c.args.word) v) (Load c.args.word) c.step.result
    c.requires.pass c.step.ensures.table.0 c.step.ensures.table.1 refl refl
    (first_stepped M laws o c.args.word c.step.result v c.step.new.seat.me.0 c.step.ensures.made)

pub returns-clause-sweeps : goal.returns-clause-sweeps
returns-clause-sweeps g c = sweeps (g.S.Structure.meaning c.args.self.now.origin.structure.value)
    (g.met.S.Structure.lawful c.args.self.now.origin.structure.value) c.args.self.now.origin c.args.word c.step.result c.args.seat.now.me.0 c.step.new.seat.me.0
    c.step.ensures.made
