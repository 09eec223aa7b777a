use Rattle.std.proofs.Common.{◌≡◌, ◌+◌, Some, None, refl, sym, ap, ◌∙◌, subst}
use Rattle.flit_structure.specs.Meanings.{replied}
use Rattle.flit_table.specs.declared.passes.Rest.TheVariants.{Ended}
use Rattle.flit_table.specs.Calls.{IsUnderWayAt}
use Rattle.flit_table.proofs.running.Running.go_on.Goals as goal

along : {X Y : Type 0} (f : X → Y) (y : Y) (p q : X) → y ≡ f p → p ≡ q → y ≡ f q
along f y p q e same = e ∙ ap f same

same_ended : {Op : Type 0} (x y : Op) → Ended x ≡ Ended y → x ≡ y
same_ended x y e = cc

pub returns : goal.returns
returns g c = λ call h made k.
    let o = c.args.self.now.origin in
    let mean = g.S.Structure.meaning in
    let M = mean o.structure.value in
    let at : c.self.inside.structure ≡ o.structure.value = sym c.self.invariant.structure ∙ ap (λ h. h.origin.structure.value) c.self.view_is in
    let op = c.make_events-made.new.op in
    let m = c.make_events-made.ensures in
    let before : IsUnderWayAt M o c.args.start.now call h.seat.me.0 c.args.held.now.seat.me.0 c.in-Ended.op made None =
    subst (λ x. IsUnderWayAt M o c.args.start.now call h.seat.me.0 c.args.held.now.seat.me.0 x made None)
    (same_ended k.op c.in-Ended.op (sym k.is ∙ c.in-Ended.is)) k.at in
    let is : replied M op ≡ Some c.in_ok-reply.reply = sym (along (λ z. replied (mean z) op) c.reply.result c.self.inside.structure o.structure.value
    c.reply.ensures at) ∙ c.in_ok-reply.was in (
      m.most,
      record {
        belongs = m.pass;
        name = k.name;
        names = k.names;
        calls = k.calls;
        op = op;
        is = refl;
        at =
            subst (IsUnderWayAt M o c.make_events-made.new.start call h.seat.me.0 c.make_events-made.new.seat.me.0 op (made + c.make_events-made.result)) is
            (m.runs call h.seat.me.0 made before);
      },
    )

pub returns-in_err-reply : goal.returns-in_err-reply
returns-in_err-reply g c = rw c.from_residual.ensures (λ call h made k.
    let o = c.args.self.now.origin in
    let mean = g.S.Structure.meaning in
    let M = mean o.structure.value in
    let at : c.self.inside.structure ≡ o.structure.value = sym c.self.invariant.structure ∙ ap (λ h. h.origin.structure.value) c.self.view_is in
    let op = c.make_events-made.new.op in
    let m = c.make_events-made.ensures in
    let before : IsUnderWayAt M o c.args.start.now call h.seat.me.0 c.args.held.now.seat.me.0 c.in-Ended.op made None =
    subst (λ x. IsUnderWayAt M o c.args.start.now call h.seat.me.0 c.args.held.now.seat.me.0 x made None)
    (same_ended k.op c.in-Ended.op (sym k.is ∙ c.in-Ended.is)) k.at in
    let is : replied M op ≡ None = sym (along (λ z. replied (mean z) op) c.reply.result c.self.inside.structure o.structure.value c.reply.ensures at)
    ∙ c.in_err-reply.was in
    record {
      belongs = m.pass;
      name = k.name;
      names = k.names;
      calls = k.calls;
      op = op;
      is = refl;
      at = subst (λ n. IsUnderWayAt M o c.make_events-made.new.start call h.seat.me.0 c.make_events-made.new.seat.me.0 op (made + n) None) (m.all is)
          (subst (IsUnderWayAt M o c.make_events-made.new.start call h.seat.me.0 c.make_events-made.new.seat.me.0 op (made + c.make_events-made.result)) is
          (m.runs call h.seat.me.0 made before));
    })
