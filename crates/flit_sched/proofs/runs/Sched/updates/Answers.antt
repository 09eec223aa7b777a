use Rattle.flit_sched.proofs.SeenLaws as seen
use Rattle.flit_sched.proofs.runs.Sched.updates.Goals as goal

pub returns-clause-legal : goal.returns-clause-legal
returns-clause-legal g c = seen.legal g.S.Structure.meaning g.met.S.Structure.lawful c.self.inside.structure c.self.invariant c.args.self.now c.self.view_is

pub returns-clause-shadows : goal.returns-clause-shadows
returns-clause-shadows g c = seen.shadows_have g.S.Structure.meaning g.met.S.Structure.lawful c.self.inside.structure c.self.invariant c.args.self.now
    c.self.view_is

pub returns-clause-updates : goal.returns-clause-updates
returns-clause-updates g c = seen.are_updates g.S.Structure.meaning g.met.S.Structure.lawful c.self.inside.structure c.self.invariant c.args.self.now
    c.self.view_is

pub returns-clause-rises : goal.returns-clause-rises
returns-clause-rises g c = seen.rises g.S.Structure.meaning g.met.S.Structure.lawful c.self.inside.structure c.self.invariant c.args.self.now c.self.view_is
