use Rattle.std.proofs.Common.{ap}
use Rattle.flit_trace.proofs.ShownTraces.{no_lines}
use Rattle.flit_trace.proofs.traces.Trace.without_scripts.Goals as goal

pub returns : goal.returns
returns c =
    let is = c.self.view_is in
    record {
      head = ap (λ x. x.head) is;
      calls = ap (λ x. x.calls) is;
      scripts = no_lines (λ script. script.items) _ c.in_ok-empty_scripts.ensures.empty;
      stops = ap (λ x. x.stops) is;
      turns = ap (λ x. x.turns) is;
      all_ahead = ap (λ x. x.all_ahead) is;
      ahead = ap (λ x. x.ahead) is;
      start = ap (λ x. x.start) is;
    }
