use Rattle.flit_structures.proofs.TraceWorks.{works_right}
use Rattle.flit_structures.proofs.TraceSlots.{head_right}
use Rattle.flit_structures.proofs.TraceOpenings.{starts}
use Rattle.flit_structures.specs.Structures.{placing_of}
use Rattle.flit_structures.proofs.laws.traces_open.Goals as goal

pub returns : goal.returns
returns c = λ bytes t start works is playable found are.
    let l = t.head.layout in
    let head = head_right bytes t is (c.within_limits.ensures.accepted bytes t is) (c.within_limits.ensures.place bytes t is) in
    let right = works_right t works are (c.within_limits.ensures.few bytes t is) (c.within_limits.ensures.right bytes t is) in
    starts l.kind l (placing_of t.head.place) start works (c.heads_open.ensures t.head start head playable found.recovery)
    (c.recovered_opens.ensures.book l start found.recovery) right
