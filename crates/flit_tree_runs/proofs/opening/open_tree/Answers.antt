use Rattle.std.proofs.Common.{◌≡◌, ◌∙◌, ap, sym, subst}
use Rattle.std.proofs.lemmas.Result.{IfOk-weaker}
use Rattle.std.specs.List.Sorted.{IsStrictlyIncreasing}
use Rattle.flit_rows.proofs.DealLaws.{increasing_from_rising}
use Rattle.flit_structure.specs.Lawful.{IsOpening}
use Rattle.flit_tree_structure.specs.TreeStructure.{trees}
use Rattle.flit_sched.specs.Openings.{opening_at, opened_run}
use Rattle.flit_tree_runs.specs.Opened.{IsTreeOf}
use Rattle.flit_tree_runs.proofs.OpenedTrees.{tree_opens}
use Rattle.flit_tree_runs.proofs.opening.open_tree.Goals as goal

pub new-requires : goal.new-requires
new-requires g c =
    let opening : IsOpening c.args.layout (opening_at c.args.start.now) =
    c.recovered_opens.ensures.opening c.args.layout c.args.start.now c.requires.found in
    subst (λ rows. IsStrictlyIncreasing rows) (sym c.deref.ensures.value) (increasing_from_rising 0 c.args.start.now.free.items opening.rising)

pub open-requires-clause-opens : goal.open-requires-clause-opens
open-requires-clause-opens g c =
    tree_opens c.args.layout (g.P.Placement.place c.args.place) c.args.start.now
    (c.recovered_opens.ensures.opening c.args.layout c.args.start.now c.requires.found) c.requires.slots c.new-2.result.layout
    (g.P.Placement.place c.new-2.result.place) c.new-2.result.pool c.new-2.ensures.layout
    (ap g.P.Placement.place c.new-2.ensures.place) (c.new-2.ensures.pool ∙ c.in_ok-pool.ensures ∙ c.deref.ensures.value)

pub open-requires-clause-found : goal.open-requires-clause-found
open-requires-clause-found g c = c.recovered_opens.ensures.book c.args.layout c.args.start.now c.requires.found

pub returns-clause-structure : goal.returns-clause-structure
returns-clause-structure g c =
    let pool : c.new-2.result.pool ≡ c.args.start.now.free.items = c.new-2.ensures.pool ∙ c.in_ok-pool.ensures ∙ c.deref.ensures.value in
    IfOk-weaker c.open.result _ _
    (λ r is. subst (λ s. IsTreeOf s c.args.layout c.args.place c.args.start.now.free.items) (sym is)
    (record { layout = c.new-2.ensures.layout; place = c.new-2.ensures.place; pool = pool })) c.open.ensures.structure

pub returns-clause-run : goal.returns-clause-run
returns-clause-run g c =
    let place_of = g.P.Placement.place in
    let start = c.args.start.now in
    let works = c.args.work.items in
    let s = c.new-2.result in
    let pool : s.pool ≡ start.free.items = c.new-2.ensures.pool ∙ c.in_ok-pool.ensures ∙ c.deref.ensures.value in
    IfOk-weaker c.open.result _ _
    (λ r is. is
    ∙ ap (λ l. opened_run (trees l (place_of s.place) s.pool) start works) c.new-2.ensures.layout
    ∙ ap (λ q. opened_run (trees c.args.layout (place_of q) s.pool) start works) c.new-2.ensures.place
    ∙ ap (λ f. opened_run (trees c.args.layout (place_of c.args.place) f) start works) pool) c.open.ensures.run
