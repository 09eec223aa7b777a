use Rattle.flit_histories.specs.Reached.{IsWonBetween}
use Rattle.flit_histories.proofs.MadeLaws.{nothing_is_made}
use Rattle.flit_histories.proofs.WonUpdates.{won}
use Rattle.flit_histories.proofs.laws.updates_were_won.Goals as goal
use Rattle.flit_sched.specs.Openings.{opened_run}

pub returns : goal.returns
returns g c = λ s. let meaning = g.S.Structure.meaning s in
    λ start works r h led. won meaning (opened_run meaning start works) r led
    (nothing_is_made (IsWonBetween meaning (opened_run meaning start works) (opened_run meaning start works)))
