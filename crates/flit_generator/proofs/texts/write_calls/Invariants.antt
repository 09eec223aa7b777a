use Rattle.std.proofs.Common.{string_bytes}
use Rattle.flit_generator.proofs.CallLines.{HasWritten}
use Rattle.flit_generator.proofs.texts.write_calls.Given as goal

abbrev pub invariant-loop-number : goal.invariant-loop-number
invariant-loop-number l =
    HasWritten l.keys l.workers l.seed l.calls (string_bytes l.initial.out) l.number l.state (string_bytes l.out)
