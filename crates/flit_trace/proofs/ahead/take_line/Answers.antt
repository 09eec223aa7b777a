use Rattle.std.proofs.Common.{sym}
use Rattle.flit_trace.proofs.Soundness.{goes-sound}
use Rattle.flit_trace.proofs.FirstLines.{some_of_ok, none_of_err, spoken_only, not_taken}
use Rattle.flit_trace.proofs.ahead.take_line.Goals as goal

pub returns-clause-sound : goal.returns-clause-sound
returns-clause-sound c =
    rw c.ok.ensures.value (some_of_ok c.take.result (goes-sound c.args.draft.now c.take.new.self c.in_ok-sentence.sentence c.requires) c.take.ensures.ok)

pub returns-clause-leads : goal.returns-clause-leads
returns-clause-leads c =
    rw c.ok.ensures.value (some_of_ok c.take.result
    (spoken_only c.args.draft.now c.take.new.self c.args.line.now c.in_ok-sentence.sentence (sym c.if-says_nothing.ensures) c.in_ok-sentence.ensures.some)
    c.take.ensures.ok)

pub returns-clause-none : goal.returns-clause-none
returns-clause-none c =
    rw c.ok.ensures.value (none_of_err c.take.result
    (λ error. not_taken 0 c.args.draft.now c.args.line.now c.in_ok-sentence.sentence error (sym c.if-says_nothing.ensures) c.in_ok-sentence.ensures.some)
    c.take.ensures.err)
