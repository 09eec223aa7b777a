-- The pairs of the walk are the entries of the tree's map.
use Rattle.std.proofs.Common.{sym, subst}
use Rattle.flit_recover.specs.TreeFinds.{IsTreeReached}
use Rattle.flit_recover.proofs.TreeRecoveries.{if_tree_recovery}
use Rattle.flit_recover.proofs.recovery.recover_grown.Goals as goal

pub returns-clause-recovery : goal.returns-clause-recovery
returns-clause-recovery c =
    let l = c.args.layout.now in
    let image = c.args.words.now in
    let found = c.in_ok-found.ensures.lawful in
    let pairs = c.as_slice.ensures.value in
    let same : IsTreeReached c.args.layout.now c.args.words.now c.in_ok-found.found.reached.rows.items c.as_slice.result.now =
    subst (IsTreeReached c.args.layout.now c.args.words.now c.in_ok-found.found.reached.rows.items) (sym pairs) found
    in
    if_tree_recovery l image c.requires.grown c.in_ok-found.found.reached.rows.items c.as_slice.result.now same c.assemble.result c.assemble.ensures.keys
    c.assemble.ensures.values c.assemble.ensures.free
