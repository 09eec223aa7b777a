use Rattle.std.proofs.Common.{refl, sym, subst, ◌∙◌, ◌+◌, take, get_or, []}
use Rattle.std.proofs.lemmas.List.{take_more}
use Rattle.flit_sched.specs.Turns.{IsTurn}
use Rattle.flit_run_callers.specs.Crashes.{AreTurnsOf}
use Rattle.flit_run_callers.proofs.CrashLaws.{one_turn_more, turns_long}
use Rattle.flit_run_callers.proofs.crashes.give_each.Goals as goal

pub loop-worker-init : goal.loop-worker-init
loop-worker-init g c = record { turns = ([], refl, refl); structure = refl; long = refl }

pub loop-worker-preserved : goal.loop-worker-preserved
loop-worker-preserved g c =
    let meaning = g.S.Structure.meaning c.args.sched.now.structure in
    let workers = c.args.workers.now in
    let i = c.loop-worker.worker-index in
    let r = c.args.sched.now.run in
    let next = c.turn.new.self.run in
    let is = subst (λ s. IsTurn (g.S.Structure.meaning s) c.loop-worker.sched.run (get_or c.args.workers.now c.loop-worker.worker-index 0) c.turn.result
    c.turn.new.self.run) c.loop-worker.invariant.structure c.turn.ensures.is in
    let turns = subst (λ ws. AreTurnsOf (g.S.Structure.meaning c.args.sched.now.structure) ws c.args.sched.now.run c.turn.new.self.run)
    (sym (take_more workers i 0 c.loop-worker-test.true))
    (one_turn_more meaning r c.loop-worker.sched.run next (take i workers) (get_or workers i 0) c.turn.result c.loop-worker.invariant.turns is) in
    record {
      turns = turns;
      structure = c.turn.ensures.structure ∙ c.loop-worker.invariant.structure;
      long = turns_long meaning r next (take (i + 1) workers) turns;
    }
