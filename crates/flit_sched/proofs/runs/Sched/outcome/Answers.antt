use Rattle.std.proofs.Common.{◌≡◌, ap, sym, subst, ◌∙◌, arith, length, map, is_some, None, slice_index_or}
use Rattle.flit_sched.specs.Openings.{is_call}
use Rattle.flit_sched.specs.Kept.{part_of}
use Rattle.flit_sched.specs.Seats.{played}
use Rattle.flit_sched.proofs.KindLaws.{kind_at}
use Rattle.flit_sched.proofs.SplitLists.{any_default}
use Rattle.flit_sched.proofs.SeenLaws as seen
use Rattle.flit_sched.proofs.runs.Sched.outcome.Goals as goal

pub index-requires-2 : goal.index-requires-2
index-requires-2 g c =
    let x = c.index.result.now in
    let k = seen.kept_seen g.S.Structure.meaning g.met.S.Structure.lawful c.self.inside.structure c.self.invariant c.args.self.now c.self.view_is
    c.args.worker x c.requires.worker.0 c.requires.worker.1 c.index.ensures in
    let is = seen.some_seen g.S.Structure.meaning g.met.S.Structure.lawful c.self.inside.structure c.self.invariant c.args.self.now c.self.view_is
    c.args.worker x c.requires.worker.0 c.requires.worker.1 c.index.ensures in
    let long = k.outcomes in
    let o = x.outcomes.ok in
    let n = c.requires.item is.0 (part_of (played (g.S.Structure.meaning c.self.inside.structure) x)) is.1 is.2 in
    omega (arith, long, o.0, n)

pub returns-clause-is : goal.returns-clause-is
returns-clause-is g c = λ a p b at.
    let x = c.index.result.now in
    let same = seen.part_seen g.S.Structure.meaning g.met.S.Structure.lawful c.self.inside.structure c.self.invariant c.args.self.now c.self.view_is
    c.args.worker x c.requires.worker.0 c.requires.worker.1 c.index.ensures a p b at in
    let kept = seen.kept_seen g.S.Structure.meaning g.met.S.Structure.lawful c.self.inside.structure c.self.invariant c.args.self.now c.self.view_is
    c.args.worker x c.requires.worker.0 c.requires.worker.1 c.index.ensures in
    let k = c.requires.item a p b at in
    let long = kept.outcomes in
    let w = ap (λ y. length y.items) same in
    c.index-2.ensures ∙ any_default x.outcomes.items c.args.item c.index-2.result.now None (omega (arith, k, w, long))
    ∙ ap (λ y. slice_index_or y.outcomes c.args.item None) same

pub returns-clause-none : goal.returns-clause-none
returns-clause-none g c = λ a p b at.
    let x = c.index.result.now in
    let same = seen.part_seen g.S.Structure.meaning g.met.S.Structure.lawful c.self.inside.structure c.self.invariant c.args.self.now c.self.view_is
    c.args.worker x c.requires.worker.0 c.requires.worker.1 c.index.ensures a p b at in
    let kept = seen.kept_seen g.S.Structure.meaning g.met.S.Structure.lawful c.self.inside.structure c.self.invariant c.args.self.now c.self.view_is
    c.args.worker x c.requires.worker.0 c.requires.worker.1 c.index.ensures in
    let h = kind_at p.outcomes p.items c.args.item (subst (λ y. map is_some y.outcomes ≡ map is_call y.items) same kept.kinds) (c.requires.item a p b at) in
    let is = returns-clause-is g c a p b at in
    ((λ e. h.0 (sym is ∙ e)), (λ e. is ∙ h.1 e))
