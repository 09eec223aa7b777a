use Rattle.std.proofs.Common.{◌≡◌, ◌<◌, ◌^◌, decimal, arith, sym, ◌∙◌}
use Rattle.std.proofs.lemmas.Fmt.{decimal_injective}
use Rattle.flit_commands.proofs.CommandLaws.{same_word}
use Rattle.flit_commands.proofs.commands.number_at.Goals as goal

pub returns-else-from-number-clause-none : goal.returns-else-from-number-clause-none
returns-else-from-number-clause-none c n least most e =
    let number = c.in_ok-number.number in
    let small : number < 10 ^ 10 = c.in_ok-number.ensures.some.0 in
    let word : c.in_ok-word.word.now ≡ decimal n = same_word _ _ _ c.in_ok-word.ensures e in
    let same : decimal number ≡ decimal n = sym c.in_ok-number.ensures.some.1 ∙ c.as_bytes.ensures.value ∙ word in
    let is : number ≡ n = decimal_injective number n (omega arith) (omega arith) same in
    grind arith
