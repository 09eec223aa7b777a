use Rattle.flit_thread_runs.proofs.Ending.{map_told, pairs_told}
use Rattle.flit_thread_runs.proofs.running.run_recovered.Goals as goal

pub recover_lawful-requires-clause-lawful : goal.recover_lawful-requires-clause-lawful
recover_lawful-requires-clause-lawful g c =
    let e = c.in_ok-ran.ensures in
    map_told _ _ c.args.works.items _ _ c.in_ok-ran.ran.image e.image e.told

pub returns-clause-recovered : goal.returns-clause-recovered
returns-clause-recovered g c =
    let e = c.in_ok-ran.ensures in
    record { told = e.told; pairs = pairs_told _ _ c.args.works.items _ _ c.in_ok-ran.ran.image c.in_ok-found.found e.image e.told c.in_ok-found.ensures.pairs }
