use Rattle.std.proofs.Common.{sym, ◌∙◌}
use Rattle.std.proofs.lemmas.List.{append_cancel_left}
use Rattle.flit_image.proofs.HeaderLines.{none_weaker}
use Rattle.flit_trace.proofs.sentences.two_numbers_behind.Goals as goal

pub returns-clause-none : goal.returns-clause-none
returns-clause-none c =
    none_weaker c.two_numbers_of.result (λ none m n small low is.
    none m n small low (append_cancel_left c.args.words.now _ _ (sym c.in_ok-behind.ensures ∙ is))) c.two_numbers_of.ensures.none
