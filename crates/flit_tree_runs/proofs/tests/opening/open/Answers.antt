use Rattle.std.proofs.Common.{◌∙◌, ap}
use Rattle.flit_words.specs.Layouts.{words_of}
use Rattle.flit_tree_runs.specs.Opened.{counts_of}
use Rattle.flit_tree_runs.proofs.ItemCounts.{first_counts}
use Rattle.flit_tree_runs.proofs.OpenedTrees.{slots_fit}
use Rattle.flit_tree_runs.proofs.tests.opening.open.Goals as goal

pub open_tree-requires-clause-slots : goal.open_tree-requires-clause-slots
open_tree-requires-clause-slots g c word below =
    let l = c.layout_of-layout.result in
    slots_fit (g.P.Placement.place c.args.place) (g.P.Placement.slots_for c.args.place) (g.met.P.Placement.laws c.args.place) (words_of l) word
    below l.slots c.layout_of-layout.ensures.slots

pub of-requires : goal.of-requires
of-requires g c =
    ap (λ r. counts_of r) c.in_ok-run.ensures.run ∙ first_counts _ 1 c.in_ok-works.works.items ∙ c.in_ok-works.ensures.counts
