use Rattle.std.proofs.Common.{◌∙◌, ap}
use Rattle.std.proofs.Math.Seq.{map-set_same}
use Rattle.flit_trace.proofs.index.trim_scripts.Goals as goal

pub loop-place-preserved : goal.loop-place-preserved
loop-place-preserved c =
    map-set_same (λ script. script.items) c.loop-place.scripts.items c.loop-place.place c.shrink_to_fit.new.self c.index_mut-script.result.now
    (c.shrink_to_fit.ensures.items ∙ ap (λ script. script.items) c.index_mut-script.ensures.value)
    ∙ c.loop-place.invariant
