use Rattle.flit_table.proofs.PassLaws.{stopped_unqueued}
use Rattle.flit_table.proofs.running.Running.tally.Goals as goal

pub returns-in-Stopped-clause-queued : goal.returns-in-Stopped-clause-queued
returns-in-Stopped-clause-queued g c = λ one. stopped_unqueued (g.S.Structure.meaning c.args.self.now.origin.structure.value) c.args.self.now c.args.pass.now.held
    c.requires c.in-Stopped.tally c.in-Stopped.start c.in-Stopped.is one
