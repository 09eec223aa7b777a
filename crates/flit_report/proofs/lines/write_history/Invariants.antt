use Rattle.std.proofs.Common.{take}
use Rattle.std.specs.List.{flat_map}
use Rattle.flit_report.specs.Lines.{Appends, history_line}
use Rattle.flit_report.proofs.lines.write_history.Given as goal

abbrev pub invariant-loop-entry : goal.invariant-loop-entry
invariant-loop-entry l = Appends l.initial.out l.out (flat_map (history_line l.version) (take l.entry-index l.history))
