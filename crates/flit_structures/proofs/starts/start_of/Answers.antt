use Rattle.std.proofs.Common.{sym}
use Rattle.flit_structures.proofs.TraceStarts.{starts_found, starts_damaged}
use Rattle.flit_structures.proofs.starts.start_of.Goals as goal

pub returns-in-Some-clause-starts : goal.returns-in-Some-clause-starts
returns-in-Some-clause-starts c =
    starts_found c.args.trace.now c.start_images.ensures.valued c.in-Some.image.now c.recover.result c.recovered_opens.ensures.shape
    c.in-Some.ensures.words c.in-Some.ensures.is c.recover.ensures.recovery c.recover.ensures.words

pub returns-in-Some-clause-damage : goal.returns-in-Some-clause-damage
returns-in-Some-clause-damage c =
    starts_damaged c.args.trace.now c.start_images.ensures.valued c.in-Some.image.now c.recover.result c.in-Some.ensures.words c.in-Some.ensures.is
    c.recover.ensures.damage

pub returns-in-Ok-clause-starts : goal.returns-in-Ok-clause-starts
returns-in-Ok-clause-starts c = c.in-Ok.ensures.starts c.args.trace.now (sym c.head.ensures.is) c.in-None.ensures.words
