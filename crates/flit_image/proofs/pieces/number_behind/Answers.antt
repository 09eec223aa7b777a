use Rattle.std.proofs.Common.{sym, ◌∙◌}
use Rattle.std.proofs.lemmas.List.{append_cancel_left}
use Rattle.flit_image.proofs.HeaderLines.{none_weaker}
use Rattle.flit_image.proofs.pieces.number_behind.Goals as goal

pub returns-clause-none : goal.returns-clause-none
returns-clause-none c =
    none_weaker c.number_up_to.result (λ none n low is.
    none n low (append_cancel_left c.args.words.now _ _ (sym c.in_ok-digits.ensures ∙ is))) c.number_up_to.ensures.none
