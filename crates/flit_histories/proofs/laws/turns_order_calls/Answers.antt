use Rattle.std.proofs.Common.{◌∷◌, [], refl}
use Rattle.flit_histories.specs.Reached.{here}
use Rattle.flit_histories.proofs.LedParts.{follows_led}
use Rattle.flit_histories.proofs.OrderLaws.{ordered}
use Rattle.flit_histories.proofs.ReachedRuns.{sound, sound_led}
use Rattle.flit_histories.proofs.ToldRuns.{told_all, told_led}
use Rattle.flit_histories.proofs.TurnOrder.{over_stays}
use Rattle.flit_histories.proofs.laws.turns_order_calls.Goals as goal

pub returns : goal.returns
returns g c = λ s.
    let meaning = g.S.Structure.meaning s in
    let laws = g.met.S.Structure.lawful s in
    λ was ended between begun next t u middle back picks d e h ends mid begins rest hd he.
    let to_ended = follows_led meaning was was ended (t ∷ []) (ended, ends.turned, refl) here in
    let to_between = follows_led meaning was ended between middle mid to_ended in
    let on = follows_led meaning between between next (u ∷ back) (begun, begins.turned, rest) here in
    ordered meaning laws between (sound_led meaning laws was between to_between (sound meaning laws was h))
    (told_led meaning laws was between to_between (sound meaning laws was h) (told_all meaning laws was h)) next on picks d e
    (over_stays meaning ended between d.worker d.number (follows_led meaning ended ended between middle mid here) ends.over) begins.yet hd he
