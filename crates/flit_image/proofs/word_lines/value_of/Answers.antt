use Rattle.std.proofs.Common.{◌≡◌, length, ap, arith}
use Rattle.flit_image.proofs.WordTexts.{tagged_cut}
use Rattle.flit_image.proofs.word_lines.value_of.Goals as goal

pub returns-then-not-is_empty-clause-none : goal.returns-then-not-is_empty-clause-none
returns-then-not-is_empty-clause-none c value tagged small is =
    let none : length c.in-Some.behind.now ≡ 0 = ap length (tagged_cut c.args.text.now c.in-Some.digits.now c.in-Some.behind.now value tagged small
    c.in-Some.ensures.some c.in-Some.ensures.first is).1 in
    grind arith

pub returns-in_err-number_up_to-2-clause-none : goal.returns-in_err-number_up_to-2-clause-none
returns-in_err-number_up_to-2-clause-none c =
    rw c.from_residual-in_err-number_up_to-2.ensures (λ value tagged small is.
    c.in_err-number_up_to-2.ensures.none value (omega arith) (tagged_cut c.args.text.now c.in-Some.digits.now c.in-Some.behind.now value tagged small
    c.in-Some.ensures.some c.in-Some.ensures.first is).0)
