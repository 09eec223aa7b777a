use Rattle.std.proofs.Common.{◌++◌, take, map}
use Rattle.std.specs.Fmt.{decimal}
use Rattle.flit_report.specs.Lines.{Appends, spaced_words}
use Rattle.flit_report.proofs.lines.write_numbers.Given as goal

abbrev pub invariant-loop-number : goal.invariant-loop-number
invariant-loop-number l =
    Appends l.fn.out l.out (l.name ++ spaced_words (map decimal (take l.number-index l.numbers)))
