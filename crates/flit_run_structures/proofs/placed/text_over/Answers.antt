use Rattle.std.proofs.Common.{◌∙◌, ap, sym, subst}
use Rattle.std.specs.List.Sorted.{IsStrictlyIncreasing}
use Rattle.flit_rows.proofs.DealLaws.{increasing_from_rising}
use Rattle.flit_run_structures.proofs.PlacedRuns.{on_list, on_hash, on_tree}
use Rattle.flit_run_structures.proofs.placed.text_over.Goals as goal

pub new-requires : goal.new-requires
new-requires g c =
    let opening = c.recovered_opens.ensures.opening c.args.outset.head.layout c.args.outset.start c.requires.outset.recovery in
    subst (λ rows. IsStrictlyIncreasing rows) (sym c.deref.ensures.value) (increasing_from_rising 0 c.args.outset.start.free.items opening.rising)

pub text_from-requires-clause-runs : goal.text_from-requires-clause-runs
text_from-requires-clause-runs g c κs within =
    let s = c.new-list.result in
    let o = c.args.outset in
    on_list o.start o.source o.head.layout s.layout (g.P.Placement.place c.args.place) (g.P.Placement.place s.place) o.start.free.items s.pool
    o.head.layout.kind c.in-List.is c.new-list.ensures.layout (ap g.P.Placement.place c.new-list.ensures.place)
    (c.new-list.ensures.pool ∙ c.in-Ok.ensures ∙ c.deref.ensures.value) c.requires.runs

pub text_from-requires-in-Hash-clause-runs : goal.text_from-requires-in-Hash-clause-runs
text_from-requires-in-Hash-clause-runs g c κs within =
    let s = c.new-table.result in
    let o = c.args.outset in
    on_hash o.start o.source o.head.layout s.layout (g.P.Placement.place c.args.place) (g.P.Placement.place s.place) o.start.free.items s.pool
    o.head.layout.kind c.in-Hash.is c.new-table.ensures.layout (ap g.P.Placement.place c.new-table.ensures.place)
    (c.new-table.ensures.pool ∙ c.in-Ok.ensures ∙ c.deref.ensures.value) c.requires.runs

pub text_from-requires-in-Tree-clause-runs : goal.text_from-requires-in-Tree-clause-runs
text_from-requires-in-Tree-clause-runs g c κs within =
    let s = c.new-tree.result in
    let o = c.args.outset in
    on_tree o.start o.source o.head.layout s.layout (g.P.Placement.place c.args.place) (g.P.Placement.place s.place) o.start.free.items s.pool
    o.head.layout.kind c.in-Tree.is c.new-tree.ensures.layout (ap g.P.Placement.place c.new-tree.ensures.place)
    (c.new-tree.ensures.pool ∙ c.in-Ok.ensures ∙ c.deref.ensures.value) c.requires.runs
