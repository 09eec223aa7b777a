use Rattle.std.proofs.Common.{refl}
use Rattle.std.proofs.lemmas.Result.{on_ok_weaker}
use Rattle.flit_plain.proofs.TreeWalks.{adds_leaf, adds_branches}
use Rattle.flit_plain.proofs.trees.+reach_tree.Goals as goal

pub returns-in-Leaf : goal.returns-in-Leaf
returns-in-Leaf t c = on_ok_weaker c.reach_leaf.result (adds_leaf c.args.layout.now c.args.words.now c.args.edge.word c.args.edge.low c.args.edge.high
    c.in-Leaf.row _ _ c.in-Leaf.ensures) c.reach_leaf.ensures

pub returns-in_ok-reach_tree-in-Inner : goal.returns-in_ok-reach_tree-in-Inner
returns-in_ok-reach_tree-in-Inner t c = on_ok_weaker c.reach_tree-in-Inner.result
    (λ right. adds_branches c.args.layout.now c.args.words.now c.args.edge.word c.args.edge.low c.args.edge.high c.in-Inner.row c.in-Inner.ensures
    c.args.reached.now _ _ _ c.in_ok-push-in-Inner.ensures.items refl
    (rw c.left_edge.ensures at c.in_ok-reach_tree-in-Inner.ensures) right)
    (rw c.right_edge.ensures at c.reach_tree-in-Inner.ensures)
