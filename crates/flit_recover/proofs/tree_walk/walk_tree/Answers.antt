use Rattle.flit_recover.proofs.TreeSteps.{tree_reached}
use Rattle.flit_recover.proofs.tree_walk.walk_tree.Goals as goal

pub returns-clause-lawful : goal.returns-clause-lawful
returns-clause-lawful c =
    let found = c.in_ok-found.ensures in
    tree_reached c.args.layout.now c.requires.accepted c.requires.kind c.args.words.now c.in_default.ensures.none c.in_ok-found.found.reached.marks.items
    c.in_ok-found.found.reached.rows.items c.in_ok-found.found.pairs.items found.marks found.found c.requires.whole c.requires.untagged c.index.result.now
    c.index.ensures c.if-not-index.false
