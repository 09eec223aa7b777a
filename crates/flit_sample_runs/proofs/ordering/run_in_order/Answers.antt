use Rattle.std.proofs.Common.{refl, ◌∙◌, ◌+◌, subst}
use Rattle.flit_sched.specs.Turns.{Alone}
use Rattle.flit_sample_runs.proofs.OrderLaws.{alone_long, one_more_runs}
use Rattle.flit_sample_runs.proofs.ordering.run_in_order.Goals as goal

pub loop-before-init : goal.loop-before-init
loop-before-init g c = record { order = refl; structure = refl; long = refl }

pub loop-before-preserved : goal.loop-before-preserved
loop-before-preserved g c =
    let worker = c.loop-before.before + 1 in
    let meaning = g.S.Structure.meaning c.args.run.now.structure in
    let alone = subst (λ s. Alone (g.S.Structure.meaning s) (c.loop-before.before + 1) c.loop-before.run.run c.run_alone.new.self.run)
    c.loop-before.invariant.structure c.run_alone.ensures.alone in
    record {
      order =
          one_more_runs meaning c.args.run.now.run c.loop-before.run.run c.run_alone.new.self.run c.loop-before.before worker refl
          c.loop-before.invariant.order alone c.run_alone.ensures.out;
      structure = c.run_alone.ensures.structure ∙ c.loop-before.invariant.structure;
      long = alone_long meaning worker c.loop-before.run.run c.run_alone.new.self.run alone ∙ c.loop-before.invariant.long;
    }
