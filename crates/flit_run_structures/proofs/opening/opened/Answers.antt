use Rattle.flit_run_structures.proofs.SourceLaws.{ready_run}
use Rattle.flit_run_structures.proofs.opening.opened.Goals as goal

pub returns-clause-ready : goal.returns-clause-ready
returns-clause-ready g c =
    let has = c.read_and_opened-read.ensures in
    let origin = rw c.in-Ok.is at has.origin in
    let pass = rw c.in-Ok.is at has.pass in
    let first = rw c.in-Ok.is at has.first in
    let taken = rw c.in_ok-read.was at has.taken in
    let works = rw c.in_ok-read.was at has.works in
    ready_run g.S.Structure.meaning c.in-Ok.running c.args.structure c.args.start c.in-Ok.pass c.args.source c.in_ok-read.read c.requires origin.0 origin.1
    pass first taken works
