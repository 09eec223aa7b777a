use Rattle.flit_image.proofs.HeaderLines.{no_version}
use Rattle.flit_image.proofs.headers.values_of.Goals as goal

pub returns-then-version-eq0-clause-none : goal.returns-then-version-eq0-clause-none
returns-then-version-eq0-clause-none c =
    no_version c.args.line.now c.in_ok-version.version c.if-version-eq0.true c.in_ok-version.ensures.some.0
