use Rattle.std.proofs.Common.{take}
use Rattle.std.specs.List.{flat_map}
use Rattle.flit_report.specs.Lines.{Appends, event_line}
use Rattle.flit_report.proofs.lines.write_events.Given as goal

abbrev pub invariant-loop-shown : goal.invariant-loop-shown
invariant-loop-shown l = Appends l.initial.out l.out (flat_map event_line (take l.shown-index l.events))
