use Rattle.std.proofs.Common.{◌∙◌}
use Rattle.flit_sample.specs.Sampling.{sample}
use Rattle.flit_sample_runs.proofs.ItemCounts.{in_order_keeps_counts}
use Rattle.flit_sample_runs.proofs.tests.rig.Driven.run_both.Goals as goal

pub invariant_of-self : goal.invariant_of-self
invariant_of-self g c = record {
  counts = in_order_keeps_counts (sample g.P.Placement.place c.args.self.now.run.structure) 2 c.args.self.now.run.run c.run_in_order.new.run.run
      c.run_in_order.ensures.order ∙ c.args.self.now.counts;
}
