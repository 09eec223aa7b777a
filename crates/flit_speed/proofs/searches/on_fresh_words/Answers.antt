use Rattle.std.proofs.Common.{◌∙◌, sym, ap, subst}
use Rattle.std.specs.List.Sorted.{IsStrictlyIncreasing}
use Rattle.flit_model.specs.States.{fresh_words}
use Rattle.flit_speed.specs.Searches.{long_list}
use Rattle.flit_speed.proofs.FoundLaws.{found_so}
use Rattle.flit_speed.proofs.ListOpens.{list_opens}
use Rattle.flit_rows.proofs.DealLaws.{increasing_from_rising}
use Rattle.flit_speed.proofs.searches.on_fresh_words.Goals as goal

pub new-requires : goal.new-requires
new-requires c =
    let start = c.in_ok-start.start in
    let row = c.list_of-layout.ensures.layout in
    let found = found_so (long_list c.args.rows) c.list_of-layout.result start row c.in_ok-start.ensures.words c.in_ok-start.ensures.recovery in
    let opening = c.recovered_opens.ensures.opening (long_list c.args.rows) start found in
    subst IsStrictlyIncreasing (sym c.deref.ensures.value) (increasing_from_rising 0 start.free.items opening.rising)

pub returns : goal.returns
returns c =
    let start = c.in_ok-start.start in
    let rows = c.args.rows in
    let row = c.list_of-layout.ensures.layout in
    let found = found_so (long_list rows) c.list_of-layout.result start row c.in_ok-start.ensures.words c.in_ok-start.ensures.recovery in
    record {
      layout = c.new-list.ensures.layout ∙ row;
      words = c.in_ok-start.ensures.words ∙ ap fresh_words row;
      opens = list_opens rows c.new-list.result.layout c.new-list.result.place.slots c.new-list.result.pool start (c.new-list.ensures.layout ∙ row)
          (ap (λ p. p.slots) c.new-list.ensures.place) (c.new-list.ensures.pool ∙ c.in_ok-pool.ensures ∙ c.deref.ensures.value)
          (c.recovered_opens.ensures.opening (long_list rows) start found);
    }
