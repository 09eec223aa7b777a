use Rattle.std.proofs.Common.{◌≡◌, length, arith}
use Rattle.std.proofs.lemmas.Grind.{common_steps}
use Rattle.flit_recover.proofs.KeyNumbers.{tree_has}
use Rattle.flit_recover.proofs.counting.count_in_tree.Goals as goal

pub returns-clause-keys : goal.returns-clause-keys
returns-clause-keys c =
    let pairs = c.in_ok-found.found.pairs in
    let long : c.len.result ≡ length pairs.items = grind (arith, common_steps) in
    tree_has c.args.layout.now c.args.words.now c.requires.grown c.in_ok-found.found.reached.rows.items pairs.items c.in_ok-found.ensures.lawful c.len.result long
