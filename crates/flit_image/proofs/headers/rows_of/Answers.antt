use Rattle.std.proofs.Common.{codes, arith}
use Rattle.flit_image.proofs.HeaderLines.{same_number}
use Rattle.flit_image.proofs.headers.rows_of.Goals as goal

pub returns-then-rows-eq0-clause-none : goal.returns-then-rows-eq0-clause-none
returns-then-rows-eq0-clause-none c rows least most is =
    omega (arith, same_number (codes "rows ") c.args.line.now c.in_ok-rows.rows rows (omega arith) (omega arith) c.in_ok-rows.ensures.some.0 is)
