use Rattle.flit_image.proofs.WordTexts.{word_line_parts}
use Rattle.flit_image.proofs.word_lines.word_line_of.Goals as goal

pub returns-in_err-number_of-clause-none : goal.returns-in_err-number_of-clause-none
returns-in_err-number_of-clause-none c =
    rw c.from_residual-in_err-number_of.ensures (λ word raw reading.
    c.in_err-number_of.ensures.none word reading.digits (word_line_parts c.args.line.now c.in_ok-rest.rest.now c.in_ok-digits.digits.now c.in_ok-digits.text.now
    word raw c.in_ok-rest.ensures c.in_ok-digits.ensures.some c.in_ok-digits.ensures.first reading).0)

pub returns-in_err-raw_of-clause-none : goal.returns-in_err-raw_of-clause-none
returns-in_err-raw_of-clause-none c =
    rw c.from_residual-in_err-raw_of.ensures (λ word raw reading.
    c.in_err-raw_of.ensures.none raw reading.raw_below (word_line_parts c.args.line.now c.in_ok-rest.rest.now c.in_ok-digits.digits.now c.in_ok-digits.text.now
    word raw c.in_ok-rest.ensures c.in_ok-digits.ensures.some c.in_ok-digits.ensures.first reading).1)
