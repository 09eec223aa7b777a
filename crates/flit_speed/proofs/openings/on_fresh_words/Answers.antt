use Rattle.std.proofs.Common.{◌≡◌, ◌∙◌, sym, ap, subst}
use Rattle.flit_model.specs.States.{fresh_words}
use Rattle.flit_model.specs.Recovery.{IsRecovery}
use Rattle.flit_speed.specs.Benches.{one_row}
use Rattle.flit_speed.proofs.FreshOpens.{start_opens}
use Rattle.flit_speed.proofs.openings.on_fresh_words.Goals as goal

pub returns : goal.returns
returns c =
    let start = c.in_ok-start.start in
    let row = c.one_row-layout.ensures in
    let words = c.in_ok-start.ensures.words ∙ ap fresh_words row in
    let found = subst (λ l. IsRecovery l start.image.words.items start.keys.items start.values.items start.free.items) row
    (subst (λ ws. IsRecovery c.one_row-layout.result ws start.keys.items start.values.items start.free.items) (sym c.in_ok-start.ensures.words)
    c.in_ok-start.ensures.recovery) in
    record {
      layout = c.new-sample.ensures.layout ∙ row;
      opens = start_opens c.new-sample.result.layout c.new-sample.result.place.slots c.new-sample.result.pool start (c.new-sample.ensures.layout ∙ row)
          (ap (λ p. p.slots) c.new-sample.ensures.place) (c.new-sample.ensures.pool ∙ c.in_ok-pool.ensures ∙ c.deref.ensures.value) words
          (c.recovered_opens.ensures.opening one_row start found);
      book = c.recovered_opens.ensures.book one_row start found;
    }
