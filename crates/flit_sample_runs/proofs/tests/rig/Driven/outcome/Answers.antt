use Rattle.flit_sample_runs.proofs.ItemCounts.{item_within}
use Rattle.flit_sample_runs.proofs.tests.rig.Driven.outcome.Goals as goal

pub outcome-requires-clause-item : goal.outcome-requires-clause-item
outcome-requires-clause-item g c before p behind part =
    item_within c.args.self.now.run.run c.args.worker before p behind c.args.self.now.first c.args.self.now.second c.args.item c.args.self.now.counts part
    c.has_item.ensures
