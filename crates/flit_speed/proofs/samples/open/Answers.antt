use Rattle.std.proofs.Common.{◌∙◌, ap}
use Rattle.flit_model.specs.States.{fresh_state}
use Rattle.flit_speed.proofs.FreshOpens.{sample_opens}
use Rattle.flit_speed.proofs.samples.open.Goals as goal

pub open-requires-clause-opens : goal.open-requires-clause-opens
open-requires-clause-opens c =
    sample_opens c.new-sample.result.layout c.new-sample.result.place.slots c.new-sample.result.pool _ (c.new-sample.ensures.layout ∙ c.one_row-layout.ensures)
    (ap (λ p. p.slots) c.new-sample.ensures.place) (c.new-sample.ensures.pool ∙ c.in_ok-pool.ensures)
    (c.in_ok-machine.ensures ∙ ap fresh_state c.one_row-layout.ensures)

pub returns : goal.returns
returns c = record {
  layout = ap (λ s. s.layout) c.open.ensures.structure ∙ c.new-sample.ensures.layout ∙ c.one_row-layout.ensures;
  alone = c.open.ensures.alone;
  reply = c.open.ensures.ended;
}
