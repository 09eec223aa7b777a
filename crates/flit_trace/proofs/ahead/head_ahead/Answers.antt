use Rattle.std.proofs.Common.{sym}
use Rattle.flit_words.specs.Texts.{lines_of}
use Rattle.flit_trace.proofs.FirstLines.{some_if, none_if, none_anyway, head_right, one_on, stuck, head_told, start_told}
use Rattle.flit_trace.proofs.ahead.head_ahead.Goals as goal

pub returns-in_err-take_line-clause-start : goal.returns-in_err-take_line-clause-start
returns-in_err-take_line-clause-start c =
    none_anyway c.from_residual.result (stuck c.args.bytes.now (lines_of c.lines.rest.now) (lines_of c.in-Some.behind.now) c.lines.draft c.in-Some.line.now
    c.in-Some.ensures.lines c.in_err-take_line.ensures.none c.lines.invariant.on)

pub returns-then-not-is_early-clause-right : goal.returns-then-not-is_early-clause-right
returns-then-not-is_early-clause-right c =
    rw (c.then_some.ensures, c.head.ensures) (some_if c.take_line.new.draft.has_start _ _ (λ _. head_right c.take_line.new.draft c.in_ok-take_line.ensures.sound))

pub returns-then-not-is_early-clause-head : goal.returns-then-not-is_early-clause-head
returns-then-not-is_early-clause-head c =
    let on = one_on (lines_of c.args.bytes.now) (lines_of c.lines.rest.now) (lines_of c.in-Some.behind.now) c.lines.draft c.take_line.new.draft
    c.in-Some.line.now c.in-Some.ensures.lines c.in_ok-take_line.ensures.leads c.lines.invariant.on in
    rw (c.then_some.ensures, c.head.ensures) (some_if c.take_line.new.draft.has_start _ _
    (head_told c.args.bytes.now (lines_of c.in-Some.behind.now) c.take_line.new.draft on (sym c.if-not-is_early.ensures)))

pub returns-then-not-is_early-clause-start : goal.returns-then-not-is_early-clause-start
returns-then-not-is_early-clause-start c =
    let on = one_on (lines_of c.args.bytes.now) (lines_of c.lines.rest.now) (lines_of c.in-Some.behind.now) c.lines.draft c.take_line.new.draft
    c.in-Some.line.now c.in-Some.ensures.lines c.in_ok-take_line.ensures.leads c.lines.invariant.on in
    rw c.then_some.ensures (none_if c.take_line.new.draft.has_start _ _
    (start_told c.args.bytes.now (lines_of c.in-Some.behind.now) c.take_line.new.draft on (sym c.if-not-is_early.ensures)))

pub lines-preserved : goal.lines-preserved
lines-preserved c = record {
  sound = c.in_ok-take_line.ensures.sound;
  early = sym c.if-not-is_early.ensures;
  on = one_on (lines_of c.args.bytes.now) (lines_of c.lines.rest.now) (lines_of c.in-Some.behind.now) c.lines.draft c.take_line.new.draft
      c.in-Some.line.now c.in-Some.ensures.lines c.in_ok-take_line.ensures.leads c.lines.invariant.on;
}
