use Rattle.std.proofs.Common.{sym, refl, inr}
use Rattle.std.proofs.lemmas.Result.{err_from_is_err_and}
use Rattle.flit_trace.specs.Contents.{told_with}
use Rattle.flit_trace.proofs.Soundness.{goes-sound}
use Rattle.flit_trace.proofs.Numbers.{goes-numbers}
use Rattle.flit_trace.proofs.LineErrors.{verdict_error}
use Rattle.flit_trace.proofs.SpelledLines.{says-ascii}
use Rattle.flit_trace.proofs.reading.take_line.Goals as goal

pub returns-in_err-take-clause-err : goal.returns-in_err-take-clause-err
returns-in_err-take-clause-err c =
    let p = err_from_is_err_and c.from_residual.result c.from_residual.ensures.1 in
    rw (p.1, p.2) (verdict_error c.args.number c.args.draft.now c.args.line.now c.in-Some.sentence _
    (record { ascii = says-ascii c.args.line.now c.in-Some.sentence c.in-Some.ensures.some; open_yet = sym c.if-is_ended.ensures })
    (sym c.if-says_nothing.ensures) c.in-Some.ensures.some c.in_err-take.ensures.err)

pub tell-requires : goal.tell-requires
tell-requires c = record {
  accepted = c.requires.sound.accepted;
  numbers = goes-numbers c.args.draft.now c.take.new.self c.in-Some.sentence c.requires.sound c.in_ok-take.ensures.ok;
  whole = c.requires.whole;
}

pub returns-clause-sound : goal.returns-clause-sound
returns-clause-sound c = goes-sound c.args.draft.now c.take.new.self c.in-Some.sentence c.requires.sound c.in_ok-take.ensures.ok

pub returns-clause-leads : goal.returns-clause-leads
returns-clause-leads c = λ t keeps. (
  told_with c.args.draft.now.layout c.args.number c.in-Some.sentence t,
  c.in_ok-tell.ensures.tells t keeps,
  (
    record { ascii = says-ascii c.args.line.now c.in-Some.sentence c.in-Some.ensures.some; open_yet = sym c.if-is_ended.ensures },
    inr (record {
      speaks = sym c.if-says_nothing.ensures;
      sentence = c.in-Some.sentence;
      says = c.in-Some.ensures.some;
      goes = c.in_ok-take.ensures.ok;
      told = refl;
    }),
  ),
)
