use Rattle.std.proofs.Common.{ap}
use Rattle.std.proofs.lemmas.Bool.{both_ways}
use Rattle.flit_words.specs.declared.links.Link.{Link}
use Rattle.flit_plain.proofs.TreeWalks.{no_tree_at, no_leaf_at, no_inner_at}
use Rattle.flit_plain.proofs.trees.look_below.Goals as goal

pub returns-then-not-leads_to : goal.returns-then-not-leads_to
returns-then-not-leads_to c =
    no_tree_at c.args.layout.now c.args.words.now c.args.edge.word c.args.edge.low c.args.edge.high c.link_at-row.result.row
    (ap (λ (k : Link). k.row) c.link_at-row.ensures)
    (λ leads. both_ways c.leads_to.result c.if-not-leads_to.true (c.leads_to.ensures.1 leads))

pub returns-else-is_leaf : goal.returns-else-is_leaf
returns-else-is_leaf c =
    no_leaf_at c.args.layout.now c.args.words.now c.args.edge.word c.args.edge.low c.args.edge.high c.link_at-row.result.row
    (c.leads_to.ensures.0 c.if-not-leads_to.false) (c.is_bare.ensures.0 c.if-is_bare.true)
    (λ leaf. both_ways c.is_leaf.result c.if-is_leaf.false (c.is_leaf.ensures.1 leaf))

pub returns-else-is_inner : goal.returns-else-is_inner
returns-else-is_inner c =
    no_inner_at c.args.layout.now c.args.words.now c.args.edge.word c.args.edge.low c.args.edge.high c.link_at-row.result.row
    (c.leads_to.ensures.0 c.if-not-leads_to.false)
    (λ bare. both_ways c.is_bare.result c.if-is_bare.false (c.is_bare.ensures.1 bare))
    (λ inner. both_ways c.is_inner.result c.if-is_inner.false (c.is_inner.ensures.1 inner))
