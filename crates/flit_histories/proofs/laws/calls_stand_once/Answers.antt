use Rattle.std.proofs.Common.{◌∙◌, true}
use Rattle.flit_model.specs.declared.calls.Reply.TheVariants.{Full, Worn}
use Rattle.flit_histories.proofs.ReachedRuns.{sound}
use Rattle.flit_histories.proofs.ToldRuns.{told_all}
use Rattle.flit_histories.proofs.CallLaws.{evict_outcome, has_outcome, over_outcome, rest_outcome, replied_entries, stopped_entries, all_of_calls, full_none, worn_none}
use Rattle.flit_histories.proofs.laws.calls_stand_once.Goals as goal

pub returns : goal.returns
returns g c = λ s.
    let meaning = g.S.Structure.meaning s in
    let laws = g.met.S.Structure.lawful s in
    record {
      told = λ r worker p k call number h at.
          has_outcome meaning laws r (sound meaning laws r h) (told_all meaning laws r h) (λ w. true) worker at.before p at.behind at.is k call number
          at.call_at;
      over = λ r worker p k call number h at less.
          over_outcome meaning laws r (sound meaning laws r h) (told_all meaning laws r h) (λ w. true) worker at.before p at.behind at.is k call number
          at.call_at less;
      rest = λ r worker p k call number h at le.
          rest_outcome meaning laws r (sound meaning laws r h) (told_all meaning laws r h) (λ w. true) worker at.before p at.behind at.is k call number
          at.call_at le;
      replied = λ r picks worker p k call number reply h at is.
          replied_entries meaning laws r (sound meaning laws r h) (told_all meaning laws r h) picks worker at.before p at.behind at.is k call number at.call_at
          reply is;
      full = λ r picks worker p k call number ticket h at is.
          replied_entries meaning laws r (sound meaning laws r h) (told_all meaning laws r h) picks worker at.before p at.behind at.is k call number at.call_at
          (Full ticket) is ∙ full_none worker number call ticket;
      worn = λ r picks worker p k call number word version h at is.
          replied_entries meaning laws r (sound meaning laws r h) (told_all meaning laws r h) picks worker at.before p at.behind at.is k call number at.call_at
          (Worn word version) is ∙ worn_none worker number call word version;
      stopped = λ r picks worker p k call number h at is.
          stopped_entries meaning laws r (sound meaning laws r h) (told_all meaning laws r h) picks worker at.before p at.behind at.is k call number at.call_at
          is;
      calls = λ r picks h.
          all_of_calls meaning laws r (sound meaning laws r h) (told_all meaning laws r h) picks;
      evicts = λ r worker a p b k word h part is.
          evict_outcome meaning laws r (sound meaning laws r h) (told_all meaning laws r h) (λ w. true) worker a p b part k word is;
    }
