use Rattle.std.proofs.Common.{ap, sym, ◌∙◌}
use Rattle.flit_words.specs.declared.links.Link.{Link}
use Rattle.flit_plain.proofs.TreeWalks.{lawful_tree_if}
use Rattle.flit_plain.proofs.trees.is_lawful_tree.Goals as goal

pub returns : goal.returns
returns c =
    rw c.unwrap_or.ensures
    (lawful_tree_if c.args.layout.now c.args.words.now c.requires.image.whole c.requires.untagged
    (c.are_fixed_rows_fresh.ensures.0 c.if-not-are_fixed_rows_fresh.false)
    (sym (ap (λ (k : Link). k.mark) c.link_at-top.ensures) ∙ c.if-top.false)
    (sym (ap (λ (k : Link). k.frozen) c.link_at-top.ensures) ∙ c.if-top-2.false)
    c.has_last_row.result c.has_last_row.ensures.none c.has_last_row.ensures.some)
