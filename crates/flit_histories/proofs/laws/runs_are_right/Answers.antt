use Rattle.flit_histories.proofs.ReachedRuns.{sound, at_moment, settled_legal, history_recovers}
use Rattle.flit_histories.proofs.laws.runs_are_right.Goals as goal

pub returns : goal.returns
returns g c = λ s.
    let meaning = g.S.Structure.meaning s in
    let laws = g.met.S.Structure.lawful s in
    record {
      moment = λ r h.
          at_moment meaning laws r (sound meaning laws r h);
      settled = λ r h.
          settled_legal meaning laws r (sound meaning laws r h);
      placed = λ r h.
          (sound meaning laws r h).right;
      history = λ r picks h.
          history_recovers meaning laws r (sound meaning laws r h) picks;
    }
