use Rattle.flit_structures.proofs.TraceSlots.{slots_right}
use Rattle.flit_structures.proofs.TraceOpenings.{opens}
use Rattle.flit_structures.specs.Structures.{placing_of}
use Rattle.flit_structures.proofs.laws.heads_open.Goals as goal

pub returns : goal.returns
returns c = λ head start right playable recovery.
    opens head.layout.kind head.layout (placing_of head.place) start (c.recovered_opens.ensures.opening head.layout start recovery)
    (slots_right head right playable)
