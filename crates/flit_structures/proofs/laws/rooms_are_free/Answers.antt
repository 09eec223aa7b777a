use Rattle.flit_structures.specs.Structures.{placing_of}
use Rattle.flit_structures.proofs.TraceOpenings.{layout_is, room_is}
use Rattle.flit_structures.proofs.laws.rooms_are_free.Goals as goal

pub returns : goal.returns
returns c = record {
  layout = λ head free. layout_is head.layout.kind head.layout (placing_of head.place) free;
  room = λ head free. room_is head.layout.kind head.layout (placing_of head.place) free;
}
