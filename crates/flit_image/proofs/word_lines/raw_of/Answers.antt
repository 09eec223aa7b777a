use Rattle.std.proofs.Common.{arith}
use Rattle.flit_words.specs.Words.{version_of, value_of, is_tagged}
use Rattle.flit_image.proofs.WordTexts.{word_text_parts, word_text_from}
use Rattle.flit_image.proofs.word_lines.raw_of.Goals as goal

pub returns-in_err-version-clause-none : goal.returns-in_err-version-clause-none
returns-in_err-version-clause-none c =
    rw c.from_residual-in_err-version.ensures (λ raw small is.
    c.in_err-version.ensures.none (version_of raw) (omega arith) (word_text_parts c.args.text.now c.in_ok-digits.digits.now c.in_ok-digits.behind.now raw small
    c.in_ok-digits.ensures.some c.in_ok-digits.ensures.first is).0)

pub returns-in_err-value-clause-none : goal.returns-in_err-value-clause-none
returns-in_err-value-clause-none c =
    rw c.from_residual-in_err-value.ensures (λ raw small is.
    c.in_err-value.ensures.none (value_of raw) (is_tagged raw) (omega arith)
    (word_text_parts c.args.text.now c.in_ok-digits.digits.now c.in_ok-digits.behind.now raw small c.in_ok-digits.ensures.some c.in_ok-digits.ensures.first
    is).1)

pub returns-clause-some : goal.returns-clause-some
returns-clause-some c =
    word_text_from c.args.text.now c.in_ok-digits.digits.now c.in_ok-digits.behind.now c.in_ok-version.version c.in_ok-value.value c.pack.result
    c.in_ok-value.tagged (omega arith) c.in_ok-digits.ensures.some c.in_ok-version.ensures.some.0 c.in_ok-value.ensures.some c.pack.ensures
