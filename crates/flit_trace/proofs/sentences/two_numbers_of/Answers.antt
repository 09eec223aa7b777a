use Rattle.flit_trace.proofs.SentenceCuts.{numbers_parts}
use Rattle.flit_trace.proofs.sentences.two_numbers_of.Goals as goal

pub returns-in_err-number_of-clause-none : goal.returns-in_err-number_of-clause-none
returns-in_err-number_of-clause-none c =
    rw c.from_residual-in_err-number_of.ensures (λ m n small low is.
    c.in_err-number_of.ensures.none m small (numbers_parts c.args.text.now c.in_ok-first.first.now c.in_ok-first.second.now m n small c.in_ok-first.ensures.some
    c.in_ok-first.ensures.first is).0)

pub returns-in_err-number_of-2-clause-none : goal.returns-in_err-number_of-2-clause-none
returns-in_err-number_of-2-clause-none c =
    rw c.from_residual-in_err-number_of-2.ensures (λ m n small low is.
    c.in_err-number_of-2.ensures.none n low (numbers_parts c.args.text.now c.in_ok-first.first.now c.in_ok-first.second.now m n small c.in_ok-first.ensures.some
    c.in_ok-first.ensures.first is).1)
