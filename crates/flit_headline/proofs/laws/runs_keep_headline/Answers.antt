use Rattle.flit_headline.proofs.Sentenced.{sentenced}
use Rattle.flit_sched.specs.Openings.{opened_run}
use Rattle.flit_headline.proofs.laws.runs_keep_headline.Goals as goal

pub returns : goal.returns
returns g c = λ s start works turns r picks h f.
    let meaning = g.S.Structure.meaning s in
    sentenced meaning (opened_run meaning start works) turns r picks ((c.turns_keep_promises.ensures s).kept start works turns r picks h f)
