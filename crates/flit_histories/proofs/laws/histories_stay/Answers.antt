use Rattle.flit_histories.specs.Reached.{here}
use Rattle.flit_histories.proofs.LedParts.{follows_led}
use Rattle.flit_histories.proofs.ReachedRuns.{sound}
use Rattle.flit_histories.proofs.ToldRuns.{told_all}
use Rattle.flit_histories.proofs.StayingCalls.{over_led, entries_led, placed_led}
use Rattle.flit_histories.proofs.laws.histories_stay.Goals as goal

pub returns : goal.returns
returns g c = λ s.
    let meaning = g.S.Structure.meaning s in
    let laws = g.met.S.Structure.lawful s in
    record {
      over = λ r next ts name number f o. over_led meaning r next (follows_led meaning r r next ts f here) name number o;
      entries = λ r next ts picks others name number h f o.
          entries_led meaning r next (follows_led meaning r r next ts f here) laws (sound meaning laws r h) (told_all meaning laws r h) picks others name
          number o;
      placed = λ r next ts f. placed_led meaning r next (follows_led meaning r r next ts f here);
    }
