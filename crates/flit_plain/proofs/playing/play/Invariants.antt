use Rattle.std.specs.FinMap as map
use Rattle.flit_model.specs.Maps.{Map}
use Rattle.flit_plain.specs.Playing.{HasSame}
use Rattle.flit_plain.proofs.Replies.{IsPlayed}
use Rattle.flit_plain.proofs.playing.play.Given as goal

abbrev pub invariant-loop-call : goal.invariant-loop-call
invariant-loop-call l = (after : Map) × IsPlayed map.empty after l.calls l.replies.items l.call-index × HasSame after l.map
