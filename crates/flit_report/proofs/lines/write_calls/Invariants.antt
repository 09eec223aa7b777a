use Rattle.std.proofs.Common.{take}
use Rattle.std.specs.List.{flat_map}
use Rattle.flit_report.specs.Lines.{Appends, call_line}
use Rattle.flit_report.proofs.lines.write_calls.Given as goal

abbrev pub invariant-loop-line : goal.invariant-loop-line
invariant-loop-line l = Appends l.initial.out l.out (flat_map (call_line l.version) (take l.line-index l.lines))
