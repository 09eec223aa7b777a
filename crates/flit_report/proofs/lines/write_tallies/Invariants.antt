use Rattle.std.proofs.Common.{◌≡◌, ◌+◌, ◌++◌, string_bytes, drop}
use Rattle.std.specs.List.{flat_map, enumerate_from}
use Rattle.flit_report.specs.Lines.{tally_line}
use Rattle.flit_report.specs.Content.{tallies_text}
use Rattle.flit_report.proofs.lines.write_tallies.Given as goal

-- what is written and the lines of the tallies that are left make the whole
abbrev pub invariant-loop-before : goal.invariant-loop-before
invariant-loop-before l =
    let left = enumerate_from (l.before + 1) (drop l.before l.tallies) in
    string_bytes l.out ++ flat_map (λ p. tally_line p.0 p.1) left
    ≡ string_bytes l.initial.out ++ tallies_text l.tallies
