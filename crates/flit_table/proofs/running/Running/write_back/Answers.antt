use Rattle.std.proofs.Common.{refl}
use Rattle.flit_words.specs.Words.{bare_of}
use Rattle.flit_model.specs.declared.events.Event.TheVariants.{Persist}
use Rattle.flit_table.proofs.CallSteps.{still_belongs}
use Rattle.flit_table.proofs.EvictSteps.{second_stepped, evicts}
use Rattle.flit_table.proofs.running.Running.write_back.Goals as goal

pub returns-clause-pass : goal.returns-clause-pass
returns-clause-pass g c =
    let o = c.args.self.now.origin in
    let M = g.S.Structure.meaning o.structure.value in
    let laws = g.met.S.Structure.lawful o.structure.value in
    let y = c.args.seat.now.me.0 in
    still_belongs M laws o c.args.self.now refl c.args.seat.now c.step.new.seat y (Persist c.args.word (bare_of c.args.found)) c.step.result c.requires.pass
    c.step.ensures.table.0 c.step.ensures.table.1 refl refl
    (second_stepped M laws o c.args.word c.args.found c.step.result c.requires.sweeps.0 y c.step.new.seat.me.0 c.requires.sweeps.1 c.step.ensures.made)

pub returns-clause-evicts : goal.returns-clause-evicts
returns-clause-evicts g c = λ v r. evicts (g.S.Structure.meaning c.args.self.now.origin.structure.value)
    (g.met.S.Structure.lawful c.args.self.now.origin.structure.value) c.args.self.now.origin c.args.word c.args.found c.step.result v c.args.seat.now.me.0
    c.step.new.seat.me.0 r c.step.ensures.made
