use Rattle.std.proofs.lemmas.Result.{IfOk-weaker}
use Rattle.flit_step_runs.proofs.OpenedLaws.{turns_shown}
use Rattle.flit_step_runs.proofs.opened.run_of.Goals as goal

pub run_of_works-requires : goal.run_of_works-requires
run_of_works-requires g c =
    let t = c.requires.0 in
    (t, c.in_ok-works.ensures t c.requires.1, turns_shown c.args.trace.now t c.requires.1, c.requires.2)

pub returns-clause-played : goal.returns-clause-played
returns-clause-played g c =
    IfOk-weaker c.run_of_works.result _ _
    (λ r played t shows can. played t (c.in_ok-works.ensures t shows) (turns_shown c.args.trace.now t shows) can)
    c.run_of_works.ensures.played
