use Rattle.flit_recover.proofs.KeyNumbers.{chains_have}
use Rattle.flit_recover.proofs.counting.count_in_chains.Goals as goal

pub returns-clause-keys : goal.returns-clause-keys
returns-clause-keys c =
    let found = c.in_ok-found.found in
    let w = c.in_ok-found.ensures.lawful in
    chains_have c.args.layout.now c.args.words.now c.requires.chained w.0 w.1 found.reached.rows.items w.2 found.count c.in_ok-found.ensures.count
