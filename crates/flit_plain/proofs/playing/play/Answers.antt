use Rattle.std.proofs.Common.{refl}
use Rattle.std.specs.FinMap as map
use Rattle.flit_model.specs.Maps.{map_after}
use Rattle.flit_plain.proofs.SameMaps.{same_empty}
use Rattle.flit_plain.proofs.Replies.{played_none, played_more}
use Rattle.flit_plain.proofs.playing.play.Goals as goal

pub loop-call-init : goal.loop-call-init
loop-call-init c = (map.empty, played_none map.empty c.args.calls.now _ c.new-replies.ensures.items, same_empty c.new-map.result c.new-map.ensures.empty)

pub loop-call-preserved : goal.loop-call-preserved
loop-call-preserved c =
    let after = c.loop-call.invariant.0 in
    let played = c.loop-call.invariant.1 in
    let same = c.loop-call.invariant.2 in (
      map_after after _,
      rw c.in_ok-push.ensures.items (played_more map.empty after c.args.calls.now c.loop-call.replies.items c.loop-call.call-index _ _
          c.in_ok-reply_to.field-0 c.loop-call-test.true refl (c.in_ok-reply_to.ensures.reply after same) played),
      c.in_ok-reply_to.ensures.map after same,
    )
