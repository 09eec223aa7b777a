use Rattle.std.proofs.Common.{◌∙◌, arith}
use Rattle.flit_sched.specs.Turns.{tally_in}
use Rattle.flit_step_runs.proofs.TellingLaws.{each_more}
use Rattle.flit_step_runs.proofs.telling.tallies_of.Goals as goal

pub loop-before-preserved : goal.loop-before-preserved
loop-before-preserved g c =
    let within = c.loop-before-test.true in
    let long = c.requires in
    c.in_ok-push.ensures.items
    ∙ each_more (λ p. tally_in (g.S.Structure.meaning c.args.sched.now.structure) p.worker.doing) c.args.sched.now.run c.loop-before.before
    c.loop-before.tallies.items c.tally.result (omega (arith, within, long)) c.loop-before.invariant c.tally.ensures
