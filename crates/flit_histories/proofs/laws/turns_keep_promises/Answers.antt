use Rattle.flit_histories.proofs.CountedRuns.{follows_counts}
use Rattle.flit_histories.proofs.Promised.{promised}
use Rattle.flit_histories.proofs.laws.turns_keep_promises.Goals as goal

pub returns : goal.returns
returns g c = λ s.
    let meaning = g.S.Structure.meaning s in
    record {
      kept = λ start works turns r picks h f. promised meaning (g.met.S.Structure.lawful s) start works h turns r f picks;
      counted = λ worker first r c turns f. follows_counts meaning worker first c turns r f;
    }
