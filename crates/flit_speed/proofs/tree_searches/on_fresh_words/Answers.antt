use Rattle.std.proofs.Common.{◌∙◌, sym, ap, subst}
use Rattle.std.specs.List.Sorted.{IsStrictlyIncreasing}
use Rattle.flit_model.specs.States.{fresh_words}
use Rattle.flit_speed.specs.TreeSearches.{deep_tree}
use Rattle.flit_speed.proofs.FoundLaws.{found_so}
use Rattle.flit_speed.proofs.TreeOpens.{tree_opens}
use Rattle.flit_rows.proofs.DealLaws.{increasing_from_rising}
use Rattle.flit_speed.proofs.tree_searches.on_fresh_words.Goals as goal

pub new-requires : goal.new-requires
new-requires c =
    let start = c.in_ok-start.start in
    let row = c.tree_of-layout.ensures.layout in
    let found = found_so (deep_tree c.args.keys) c.tree_of-layout.result start row c.in_ok-start.ensures.words c.in_ok-start.ensures.recovery in
    let opening = c.recovered_opens.ensures.opening (deep_tree c.args.keys) start found in
    subst IsStrictlyIncreasing (sym c.deref.ensures.value) (increasing_from_rising 0 start.free.items opening.rising)

pub returns : goal.returns
returns c =
    let start = c.in_ok-start.start in
    let keys = c.args.keys in
    let row = c.tree_of-layout.ensures.layout in
    let found = found_so (deep_tree keys) c.tree_of-layout.result start row c.in_ok-start.ensures.words c.in_ok-start.ensures.recovery in
    record {
      layout = c.new-tree.ensures.layout ∙ row;
      words = c.in_ok-start.ensures.words ∙ ap fresh_words row;
      opens = tree_opens keys c.new-tree.result.layout c.new-tree.result.place.slots c.new-tree.result.pool start (c.new-tree.ensures.layout ∙ row)
          (ap (λ p. p.slots) c.new-tree.ensures.place) (c.new-tree.ensures.pool ∙ c.in_ok-pool.ensures ∙ c.deref.ensures.value)
          (c.recovered_opens.ensures.opening (deep_tree keys) start found);
    }
