use Rattle.std.proofs.Common.{◌≡◌, refl}
use Rattle.flit_sched.specs.Openings.{opened_run}
use Rattle.flit_histories.proofs.CallerOrder.{numbers_in_order}
use Rattle.flit_histories.proofs.CountedRuns.{all_first}
use Rattle.flit_histories.proofs.FirstRuns.{opened_sound}
use Rattle.flit_histories.proofs.ReachedRuns.{sound}
use Rattle.flit_histories.proofs.ToldRuns.{told_all, opened_told}
use Rattle.flit_histories.proofs.OrderLaws.{updates_over, none_waits, reads_over, updates_later, reads_later, ordered}
use Rattle.flit_histories.proofs.laws.order_is_kept.Goals as goal

pub returns : goal.returns
returns g c = λ s.
    let meaning = g.S.Structure.meaning s in
    let laws = g.met.S.Structure.lawful s in
    record {
      updates_over = λ r next front x back h led over is.
          updates_over meaning laws r (sound meaning laws r h) (told_all meaning laws r h) next led front x back over is;
      none_waits = λ r next word x h led over is.
          none_waits meaning laws r (sound meaning laws r h) (told_all meaning laws r h) next led word x over is;
      reads_over = λ r next q h led over is.
          reads_over meaning laws r (sound meaning laws r h) (told_all meaning laws r h) next led q over is;
      updates_later = λ r next front x back h led ahead is.
          updates_later meaning laws r (sound meaning laws r h) (told_all meaning laws r h) next led front x back ahead is;
      reads_later = λ r next q h led ahead is.
          reads_later meaning laws r (sound meaning laws r h) (told_all meaning laws r h) next led q ahead is;
      history = λ r next picks d e h led over ahead hd he.
          ordered meaning laws r (sound meaning laws r h) (told_all meaning laws r h) next led picks d e over ahead hd he;
      callers = λ r picks d e h hd he same less.
          numbers_in_order meaning laws (opened_run meaning h.start h.works) (opened_sound meaning laws h.start h.works h.starts)
          (opened_told meaning laws h.start h.works) (all_first meaning laws (λ m x. x.worker.number ≡ 0) (λ m w. refl) 1 h.works) r h.leads picks d e hd he
          same less;
    }
