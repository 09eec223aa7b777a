use Rattle.flit_structures.proofs.TraceStarts.{fresh_found, fresh_starts}
use Rattle.flit_structures.proofs.starts.fresh_start.Goals as goal

pub returns-clause-recovery : goal.returns-clause-recovery
returns-clause-recovery c = fresh_found c.args.head.now c.fresh.result c.fresh.ensures.recovery c.fresh.ensures.words

pub returns-clause-starts : goal.returns-clause-starts
returns-clause-starts c = fresh_starts c.args.head.now c.fresh.result c.fresh.ensures.recovery c.fresh.ensures.words
