use Rattle.std.proofs.Common.{◌-◌, ◌∙◌, ap, refl, arith}
use Rattle.flit_trace.proofs.ShownTraces.{seen_script, names_are}
use Rattle.flit_trace.proofs.traces.Trace.of.Goals as goal

pub returns : goal.returns
returns c = λ t keeps counted.
    let names = names_are c.ahead_of.result _ _ c.ahead_of.ensures in
    record {
      head = c.head.ensures;
      calls = counted.calls;
      scripts = λ worker is. seen_script _ _ (worker - 1) ∙ keeps.scripts worker is.least
          (omega (arith, is.most, c.requires.sound.accepted.most_worker, ap (λ (h : _). h.layout.workers) c.head.ensures));
      stops = refl;
      turns = keeps.turns;
      all_ahead = names.all_is ∙ keeps.all_ahead;
      ahead = names.words_are ∙ rw (keeps.all_ahead, keeps.ahead) refl;
      start = c.start_of.ensures.words ∙ rw keeps.words refl;
    }
