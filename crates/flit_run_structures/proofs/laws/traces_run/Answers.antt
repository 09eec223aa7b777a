use Rattle.flit_structures.specs.Structures.{placing_of}
use Rattle.flit_structures.proofs.TraceOpenings.{layout_is, room_is}
use Rattle.flit_run_structures.proofs.laws.traces_run.Goals as goal

pub returns : goal.returns
returns c = λ bytes t start is playable starts. record {
  layout = layout_is t.head.layout.kind t.head.layout (placing_of t.head.place) start.free.items;
  room = room_is t.head.layout.kind t.head.layout (placing_of t.head.place) start.free.items;
  plays = c.traces_play.ensures bytes t start is playable starts;
}
