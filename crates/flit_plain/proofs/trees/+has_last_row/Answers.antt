use Rattle.flit_plain.proofs.TreeWalks.{tree_of_leaf, tree_of_branches, no_tree_left, no_tree_right}
use Rattle.flit_plain.proofs.trees.+has_last_row.Goals as goal

pub returns-in-Leaf-clause-some : goal.returns-in-Leaf-clause-some
returns-in-Leaf-clause-some t c = tree_of_leaf c.args.layout.now c.args.words.now c.args.edge.word c.args.edge.low c.args.edge.high c.in-Leaf.row
    c.in-Leaf.ensures

pub returns-in_err-in_left-in-Inner-clause-none : goal.returns-in_err-in_left-in-Inner-clause-none
returns-in_err-in_left-in-Inner-clause-none t c =
    rw c.from_residual.ensures
    (no_tree_left c.args.layout.now c.args.words.now c.args.edge.word c.args.edge.low c.args.edge.high c.in-Inner.row c.in-Inner.ensures
    (rw c.left_edge.ensures at c.in_err-in_left-in-Inner.ensures.none))

pub returns-in_err-in_right-in-Inner-clause-none : goal.returns-in_err-in_right-in-Inner-clause-none
returns-in_err-in_right-in-Inner-clause-none t c =
    rw c.from_residual-in_err-in_right-in-Inner.ensures
    (no_tree_right c.args.layout.now c.args.words.now c.args.edge.word c.args.edge.low c.args.edge.high c.in-Inner.row c.in-Inner.ensures
    (rw c.right_edge.ensures at c.in_err-in_right-in-Inner.ensures.none))

pub returns-in_ok-in_right-in-Inner-clause-some : goal.returns-in_ok-in_right-in-Inner-clause-some
returns-in_ok-in_right-in-Inner-clause-some t c =
    tree_of_branches c.args.layout.now c.args.words.now c.args.edge.word c.args.edge.low c.args.edge.high c.in-Inner.row c.in-Inner.ensures
    c.in_ok-in_left-in-Inner.in_left c.in_ok-in_right-in-Inner.in_right
    (rw c.left_edge.ensures at c.in_ok-in_left-in-Inner.ensures.some)
    (rw c.right_edge.ensures at c.in_ok-in_right-in-Inner.ensures.some)
