use Rattle.std.proofs.Common.{refl}
use Rattle.flit_model.specs.declared.events.Event.TheVariants.{Load}
use Rattle.flit_table.specs.declared.views.Start.TheVariants.{Go}
use Rattle.flit_table.proofs.CallSteps.{may_go_on}
use Rattle.flit_table.proofs.LoadSteps.{tells, loaded_at}
use Rattle.flit_table.proofs.loading.RunningLoaderOp.load.Goals as goal

pub step-requires-clause-range : goal.step-requires-clause-range
step-requires-clause-range g c =
    let o = c.args.self.now.origin in
    let mean = g.S.Structure.meaning o.structure.value in
    let laws = g.met.S.Structure.lawful o.structure.value in
    let r = c.requires.asked in
    (may_go_on mean laws o Go r.0.0 r.0.1 c.args.seat.now.me.0 r.1 (Load c.args.word) r.2 r.4 r.3.at).within

pub returns-clause-may : goal.returns-clause-may
returns-clause-may g c = λ run op made h asks.
    let home = c.args.self.now in
    let laws = g.met.S.Structure.lawful home.origin.structure.value in
    tells g.S.Structure.meaning home laws Go c.args.seat.now c.step.new.seat op (Load c.args.word) c.step.result asks c.step.ensures.made run.0 run.1 made h.at

pub returns-clause-stands : goal.returns-clause-stands
returns-clause-stands g c = λ run op made h asks.
    let home = c.args.self.now in
    let laws = g.met.S.Structure.lawful home.origin.structure.value in
    let table = c.step.ensures.table in
    loaded_at g.S.Structure.meaning home laws Go c.args.seat.now c.step.new.seat op (Load c.args.word) c.step.result asks c.step.ensures.made
    _ refl h.belongs table.0 table.1 run.0 run.1 made h.at
