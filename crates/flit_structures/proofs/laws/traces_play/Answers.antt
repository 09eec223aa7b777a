use Rattle.flit_structures.proofs.TraceOpenings.{shape}
use Rattle.flit_structures.specs.Structures.{placing_of}
use Rattle.flit_structures.proofs.laws.traces_play.Goals as goal

pub returns : goal.returns
returns c = λ bytes t start is playable starts. record {
  shape = shape t.head.layout.kind t.head.layout (placing_of t.head.place) start.free.items;
  starts = λ works are. c.traces_open.ensures bytes t start works is playable starts are;
  rising = c.merged_scripts.ensures.lines bytes t is;
  lines = c.within_limits.ensures.right bytes t is;
  turns = c.within_limits.ensures.turns bytes t is;
}
