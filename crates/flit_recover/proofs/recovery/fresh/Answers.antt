use Rattle.flit_recover.proofs.Recoveries.{fresh_recovery}
use Rattle.flit_recover.proofs.recovery.fresh.Goals as goal

pub returns-clause-recovery : goal.returns-clause-recovery
returns-clause-recovery c = fresh_recovery c.args.layout.now _ _ _ c.requires c.new.ensures.items c.new-2.ensures.items c.in_ok-all_rows.ensures
