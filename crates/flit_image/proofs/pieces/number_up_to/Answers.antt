use Rattle.std.proofs.Common.{◌≡◌, ◌<◌, ◌^◌, sym, ◌∙◌, arith}
use Rattle.std.proofs.lemmas.Fmt.{decimal_injective}
use Rattle.flit_image.proofs.pieces.number_up_to.Goals as goal

pub returns-else-number-from-clause-none : goal.returns-else-number-from-clause-none
returns-else-number-from-clause-none c n low is =
    let number = c.in_ok-number.number in
    let small : number < 10 ^ 10 = c.in_ok-number.ensures.some.0 in
    let same : number ≡ n = decimal_injective number n (omega arith) (omega arith) (sym c.in_ok-number.ensures.some.1 ∙ is) in
    grind arith
