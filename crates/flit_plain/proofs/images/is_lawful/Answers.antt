use Rattle.flit_plain.proofs.WholeImages.{chained_kind, lawful_chained, lawful_grown}
use Rattle.flit_plain.proofs.images.is_lawful.Goals as goal

pub returns-in-List : goal.returns-in-List
returns-in-List c =
    let whole = lawful_chained c.args.layout.now c.args.words.now (chained_kind c.args.layout.now.kind c.in-List.is) in
    ((λ e. whole.0 (c.is_lawful_list.ensures.0 e)), (λ h. c.is_lawful_list.ensures.1 (whole.1 h)))

pub returns-in-Tree : goal.returns-in-Tree
returns-in-Tree c =
    let whole = lawful_grown c.args.layout.now c.args.words.now c.in-Tree.is in
    ((λ e. whole.0 (c.is_lawful_tree.ensures.0 e)), (λ h. c.is_lawful_tree.ensures.1 (whole.1 h)))
