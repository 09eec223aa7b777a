use Rattle.std.proofs.Common.{◌∙◌, ap, sym, subst}
use Rattle.std.specs.List.Sorted.{IsStrictlyIncreasing}
use Rattle.flit_rows.proofs.DealLaws.{increasing_from_rising}
use Rattle.flit_structures.proofs.ReportSteps.{on_list, on_hash}
use Rattle.flit_structures.proofs.reports.told_over.Goals as goal

pub new-requires : goal.new-requires
new-requires g c =
    let opening = c.recovered_opens.ensures.opening c.args.trace.head.layout c.args.start c.requires.found in
    subst (λ rows. IsStrictlyIncreasing rows) (sym c.deref.ensures.value) (increasing_from_rising 0 c.args.start.free.items opening.rising)

pub returns-in-List : goal.returns-in-List
returns-in-List g c =
    let s = c.new-in-List.result in
    let head = c.args.trace.head in
    on_list (λ v. v.items) c.text_of_run.result c.args.trace c.args.wanted c.args.start head.layout s.layout (g.P.Placement.place c.args.place)
    (g.P.Placement.place s.place) c.args.start.free.items s.pool head.layout.kind (sym (ap (λ h. h.layout.kind) c.head.ensures.is) ∙ c.in-List.is)
    (c.new-in-List.ensures.layout ∙ ap (λ h. h.layout) c.head.ensures.is) (ap g.P.Placement.place c.new-in-List.ensures.place)
    (c.new-in-List.ensures.pool ∙ c.in_ok-pool.ensures ∙ c.deref.ensures.value) c.text_of_run.ensures

pub returns-in-Hash : goal.returns-in-Hash
returns-in-Hash g c =
    let s = c.new-in-Hash.result in
    let head = c.args.trace.head in
    on_hash (λ v. v.items) c.text_of_run-in-Hash.result c.args.trace c.args.wanted c.args.start head.layout s.layout (g.P.Placement.place c.args.place)
    (g.P.Placement.place s.place) c.args.start.free.items s.pool head.layout.kind (sym (ap (λ h. h.layout.kind) c.head.ensures.is) ∙ c.in-Hash.is)
    (c.new-in-Hash.ensures.layout ∙ ap (λ h. h.layout) c.head.ensures.is) (ap g.P.Placement.place c.new-in-Hash.ensures.place)
    (c.new-in-Hash.ensures.pool ∙ c.in_ok-pool.ensures ∙ c.deref.ensures.value) c.text_of_run-in-Hash.ensures
