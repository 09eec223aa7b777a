use Rattle.std.proofs.Common.{◌∷◌, [], ◌++◌, ◌∙◌, refl, ap}
use Rattle.std.proofs.lemmas.Bool.{not-true, not-false}
use Rattle.flit_plain.proofs.ChainWalks.{removed_by, adds_kept, adds_removed}
use Rattle.flit_plain.proofs.chains.reach_row.Goals as goal

pub returns-in_ok-push-2 : goal.returns-in_ok-push-2
returns-in_ok-push-2 c =
    adds_kept c.args.layout.now c.args.words.now c.args.row _ _
    (removed_by c.args.layout.now c.args.words.now c.args.row _ c.link_at.result c.link_at.ensures c.row_word.ensures.is ∙ not-true _ c.if-not-link_at.true)
    c.in_ok-push.ensures.items
    (c.in_ok-push-2.ensures.items ∙ ap (λ p. c.args.reached.now.pairs.items ++ p ∷ []) c.pair_of.ensures)

pub returns-else-not-link_at : goal.returns-else-not-link_at
returns-else-not-link_at c =
    adds_removed c.args.layout.now c.args.words.now c.args.row _ _
    (removed_by c.args.layout.now c.args.words.now c.args.row _ c.link_at.result c.link_at.ensures c.row_word.ensures.is ∙ not-false _ c.if-not-link_at.false)
    c.in_ok-push.ensures.items
    refl
