use Rattle.std.proofs.Common.{◌+◌, add-one, sym, ap, arith}
use Rattle.std.proofs.lemmas.Result.{err_from_is_err_and}
use Rattle.flit_words.specs.Texts.{lines_of}
use Rattle.flit_trace.proofs.LoopSteps.{one_more, line_fault, all_read, trimmed}
use Rattle.flit_trace.proofs.reading.read_lines.Goals as goal

pub returns-in_err-take_line-clause-err : goal.returns-in_err-take_line-clause-err
returns-in_err-take_line-clause-err c =
    let p = err_from_is_err_and c.from_residual-in_err-take_line.result c.from_residual-in_err-take_line.ensures.1 in
    rw (p.1, p.2) (line_fault (lines_of c.args.bytes.now) (lines_of c.lines.rest.now) (lines_of c.in-Some.behind.now) c.lines.draft c.lines.index c.lines.number
    c.in-Some.line.now _ c.in-Some.ensures.lines c.lines.invariant.so_far c.in_err-take_line.ensures.err)

pub lines-preserved : goal.lines-preserved
lines-preserved c = record {
  sound = c.in_ok-take_line.ensures.sound;
  whole = c.in_ok-take_line.ensures.whole;
  few = omega (arith, c.lines.invariant.few, c.in-Some.ensures.shorter);
  so_far = one_more (lines_of c.args.bytes.now) (lines_of c.lines.rest.now) (lines_of c.in-Some.behind.now) c.lines.draft c.take_line.new.draft c.lines.index
      c.take_line.new.index c.lines.number (c.lines.number + 1) c.in-Some.line.now (add-one c.lines.number) c.in-Some.ensures.lines
      c.in_ok-take_line.ensures.leads c.lines.invariant.so_far;
}

pub returns-clause-read : goal.returns-clause-read
returns-clause-read c =
    trimmed (lines_of c.args.bytes.now) c.lines.draft c.lines.index c.trim.new.self c.trim.ensures.same
    (all_read (lines_of c.args.bytes.now) (lines_of c.lines.rest.now) c.lines.draft c.lines.index c.lines.number (ap lines_of c.in_default.ensures.lines)
    (sym c.if-not-is_ended.ensures) c.lines.invariant.so_far)
