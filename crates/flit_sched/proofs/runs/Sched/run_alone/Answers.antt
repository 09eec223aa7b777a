use Rattle.std.proofs.Common.{refl, ◌∙◌, subst}
use Rattle.flit_sched.specs.Turns.{no_turn, Alone}
use Rattle.flit_sched.proofs.AloneLaws.{alone_joined}
use Rattle.flit_sched.proofs.runs.Sched.run_alone.Goals as goal

pub loop-init : goal.loop-init
loop-init g c = record { alone = no_turn; structure = refl; long = refl }

pub loop-preserved : goal.loop-preserved
loop-preserved g c = record {
  alone = alone_joined (g.S.Structure.meaning c.args.self.now.structure) c.args.worker c.args.self.now.run c.loop.self.run c.run_item.new.self.run
      c.loop.invariant.alone
      (subst (λ s. Alone (g.S.Structure.meaning s) c.args.worker c.loop.self.run c.run_item.new.self.run) c.loop.invariant.structure c.run_item.ensures.alone);
  structure = c.run_item.ensures.structure ∙ c.loop.invariant.structure;
  long = c.run_item.ensures.long ∙ c.loop.invariant.long;
}

pub returns-clause-alone : goal.returns-clause-alone
returns-clause-alone g c =
    alone_joined (g.S.Structure.meaning c.args.self.now.structure) c.args.worker c.args.self.now.run c.loop.self.run c.run_item.new.self.run
    c.loop.invariant.alone
    (subst (λ s. Alone (g.S.Structure.meaning s) c.args.worker c.loop.self.run c.run_item.new.self.run) c.loop.invariant.structure c.run_item.ensures.alone)
