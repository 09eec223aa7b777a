use Rattle.std.proofs.Common.{rules, ◌≡◌, ℕ, suc, ◌+◌, ◌-◌, ◌<◌, ◌≤◌, Some, sym, ap, ◌∙◌, subst, arith}
use Rattle.flit_structure.specs.Meanings.{MayTake, replied}
use Rattle.flit_table.specs.declared.views.Start.TheVariants.{Go}
use Rattle.flit_table.specs.Calls.{IsUnderWayAt}
use Rattle.flit_table.proofs.CallSteps.{may_go_on}
use Rattle.flit_table.proofs.LoadSteps.{tells, loaded_at, all_made}
use Rattle.flit_table.proofs.running.Running.make_events.Goals as goal

along : {X Y : Type 0} (f : X → Y) (y : Y) (p q : X) → y ≡ f p → p ≡ q → y ≡ f q
along f y p q e same = e ∙ ap f same

at_most : (made steps more : ℕ) → made < steps → more ≤ steps - (made + 1) → made + 1 + more ≤ steps
at_most made steps more l h = omega arith

pub step-answer-requires-clause-may : goal.step-answer-requires-clause-may
step-answer-requires-clause-may g c =
    let o = c.args.self.now.origin in
    let mean = g.S.Structure.meaning in
    let M = mean o.structure.value in
    let laws = g.met.S.Structure.lawful o.structure.value in
    let at : c.self.inside.structure ≡ o.structure.value = sym c.self.invariant.structure ∙ ap (λ h. h.origin.structure.value) c.self.view_is in
    let op = c.loop-made.op in
    let e = c.in-Some.event in
    let asks : (mean c.self.inside.structure).asked op ≡ Some e = search rules in
    let here : M.asked op ≡ Some e = subst (λ z. (mean z).asked op ≡ Some e) at asks in
    let r = c.requires.runs in
    let may = may_go_on M laws o c.loop-made.start r.0 r.1 c.loop-made.seat.me.0 op e (r.2 + c.loop-made.made) here (c.loop-made.invariant.2 r.0 r.1 r.2 r.3) in
    may.may

pub step-answer-requires-clause-asked : goal.step-answer-requires-clause-asked
step-answer-requires-clause-asked g c =
    let o = c.args.self.now.origin in
    let mean = g.S.Structure.meaning in
    let M = mean o.structure.value in
    let laws = g.met.S.Structure.lawful o.structure.value in
    let at : c.self.inside.structure ≡ o.structure.value = sym c.self.invariant.structure ∙ ap (λ h. h.origin.structure.value) c.self.view_is in
    let op = c.loop-made.op in
    let e = c.in-Some.event in
    let asks : (mean c.self.inside.structure).asked op ≡ Some e = search rules in
    let here : M.asked op ≡ Some e = subst (λ z. (mean z).asked op ≡ Some e) at asks in
    let r = c.requires.runs in
    let may = may_go_on M laws o c.loop-made.start r.0 r.1 c.loop-made.seat.me.0 op e (r.2 + c.loop-made.made) here (c.loop-made.invariant.2 r.0 r.1 r.2 r.3) in
    may.asked

pub step-answer-requires-clause-range : goal.step-answer-requires-clause-range
step-answer-requires-clause-range g c =
    let o = c.args.self.now.origin in
    let mean = g.S.Structure.meaning in
    let M = mean o.structure.value in
    let laws = g.met.S.Structure.lawful o.structure.value in
    let at : c.self.inside.structure ≡ o.structure.value = sym c.self.invariant.structure ∙ ap (λ h. h.origin.structure.value) c.self.view_is in
    let op = c.loop-made.op in
    let e = c.in-Some.event in
    let asks : (mean c.self.inside.structure).asked op ≡ Some e = search rules in
    let here : M.asked op ≡ Some e = subst (λ z. (mean z).asked op ≡ Some e) at asks in
    let r = c.requires.runs in
    let may = may_go_on M laws o c.loop-made.start r.0 r.1 c.loop-made.seat.me.0 op e (r.2 + c.loop-made.made) here (c.loop-made.invariant.2 r.0 r.1 r.2 r.3) in
    may.within

pub take-requires : goal.take-requires
take-requires g c =
    let o = c.args.self.now.origin in
    let mean = g.S.Structure.meaning in
    let M = mean o.structure.value in
    let laws = g.met.S.Structure.lawful o.structure.value in
    let at : c.self.inside.structure ≡ o.structure.value = sym c.self.invariant.structure ∙ ap (λ h. h.origin.structure.value) c.self.view_is in
    let op = c.loop-made.op in
    let e = c.in-Some.event in
    let n = c.step-answer.result in
    let asks : (mean c.self.inside.structure).asked op ≡ Some e = search rules in
    let here : M.asked op ≡ Some e = subst (λ z. (mean z).asked op ≡ Some e) at asks in
    let r = c.requires.runs in
    subst (λ z. MayTake (mean z) op n) (sym at)
    (tells mean c.args.self.now laws c.loop-made.start c.loop-made.seat c.step-answer.new.seat op e n here c.step-answer.ensures.made r.0 r.1
    (r.2 + c.loop-made.made) (c.loop-made.invariant.2 r.0 r.1 r.2 r.3))

pub make_loads-made-requires-clause-stands : goal.make_loads-made-requires-clause-stands
make_loads-made-requires-clause-stands g c =
    let o = c.args.self.now.origin in
    let mean = g.S.Structure.meaning in
    let M = mean o.structure.value in
    let laws = g.met.S.Structure.lawful o.structure.value in
    let at : c.self.inside.structure ≡ o.structure.value = sym c.self.invariant.structure ∙ ap (λ h. h.origin.structure.value) c.self.view_is in
    let op = c.loop-made.op in
    let e = c.in-Some.event in
    let n = c.step-answer.result in
    let table = c.step-answer.ensures.table in
    let asks : (mean c.self.inside.structure).asked op ≡ Some e = search rules in
    let here : M.asked op ≡ Some e = subst (λ z. (mean z).asked op ≡ Some e) at asks in
    let taken : c.take.new.op ≡ M.taken op n = along (λ z. (mean z).taken op n) c.take.new.op c.self.inside.structure o.structure.value c.take.ensures at in
    let r = c.requires.runs in
    let k = r.2 + c.loop-made.made in (
      (r.0, r.1),
      suc k,
      loaded_at mean c.args.self.now laws c.loop-made.start c.loop-made.seat c.step-answer.new.seat op e n here c.step-answer.ensures.made c.take.new.op taken
          c.loop-made.invariant.1 table.0 table.1 r.0 r.1 k (c.loop-made.invariant.2 r.0 r.1 r.2 r.3),
    )

pub loop-made-preserved : goal.loop-made-preserved
loop-made-preserved g c =
    let o = c.args.self.now.origin in
    let mean = g.S.Structure.meaning in
    let M = mean o.structure.value in
    let laws = g.met.S.Structure.lawful o.structure.value in
    let at : c.self.inside.structure ≡ o.structure.value = sym c.self.invariant.structure ∙ ap (λ h. h.origin.structure.value) c.self.view_is in
    let op = c.loop-made.op in
    let e = c.in-Some.event in
    let n = c.step-answer.result in
    let table = c.step-answer.ensures.table in
    let asks : (mean c.self.inside.structure).asked op ≡ Some e = search rules in
    let here : M.asked op ≡ Some e = subst (λ z. (mean z).asked op ≡ Some e) at asks in
    let taken : c.take.new.op ≡ M.taken op n = along (λ z. (mean z).taken op n) c.take.new.op c.self.inside.structure o.structure.value c.take.ensures at in
    let so_far = c.loop-made.made in
    let loads = c.make_loads-made.ensures in
    let first = loaded_at mean c.args.self.now laws c.loop-made.start c.loop-made.seat c.step-answer.new.seat op e n here c.step-answer.ensures.made
    c.take.new.op taken c.loop-made.invariant.1 table.0 table.1 in
    let going = c.loop-made.invariant.2 in
    let r = c.requires.runs in (
      at_most so_far c.args.steps c.make_loads-made.result c.loop-made-test.true loads.most,
      (loads.stands (r.0, r.1) (suc (r.2 + so_far)) (first r.0 r.1 (r.2 + so_far) (going r.0 r.1 r.2 r.3))).belongs,
      λ call v made h.
          let k = made + so_far in
          subst (λ (z : ℕ). IsUnderWayAt M o Go call v c.make_loads-made.new._seat.me.0 c.make_loads-made.new._op z (replied M c.make_loads-made.new._op))
          (all_made made so_far c.make_loads-made.result) (loads.stands (call, v) (suc k) (first call v k (going call v made h))).at,
    )

pub returns-clause-runs : goal.returns-clause-runs
returns-clause-runs g c = λ call v made h.
    let o = c.args.self.now.origin in
    let M = g.S.Structure.meaning o.structure.value in
    let all : c.loop-made.made ≡ c.args.steps = omega (arith, c.loop-made-test.false, c.loop-made.invariant.0) in
    subst (λ (n : ℕ). IsUnderWayAt M o c.loop-made.start call v c.loop-made.seat.me.0 c.loop-made.op (made + n) (replied M c.loop-made.op)) all
    (c.loop-made.invariant.2 call v made h)
