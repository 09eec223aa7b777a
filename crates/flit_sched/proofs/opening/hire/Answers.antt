use Rattle.std.proofs.Common.{◌≡◌, ◌++◌, ◌∷◌, [], append_assoc, length, ap, sym, ◌∙◌, arith, map, length-append, subst, refl}
use Rattle.std.specs.Vec.Iter.{into_iter_items}
use Rattle.flit_sched.specs.Openings.{first_outcome}
use Rattle.flit_sched.specs.Seats.{AreHiredFrom}
use Rattle.flit_sched.specs.declared.seats.At.TheVariants.{New}
use Rattle.flit_sched.proofs.HiredLaws.{hired_pushed}
use Rattle.flit_sched.proofs.opening.hire.Goals as goal

pub loop-work-preserved : goal.loop-work-preserved
loop-work-preserved g c =
    let at = c.loop-work in
    let x = c.in-Some.work in
    let steps : into_iter_items at.work-iterator ≡ x ∷ into_iter_items c.next.new.self = c.in-Some.ensures.steps.0 in
    record {
      all = append_assoc at.yielded (x ∷ []) _ ∙ rw (← steps) at.invariant.all;
      left = (let was = at.invariant.left in let gone = c.in-Some.ensures.steps.1 in let short = ap length steps in omega arith);
      hired =
          subst (AreHiredFrom 1 (at.yielded ++ x ∷ [])) (sym c.in_ok-push.ensures.items)
          (hired_pushed 1 at.players.items at.yielded x _ at.invariant.hired (record {
            worker = ap (λ n. record { name = n; number = 0; at = New }) at.invariant.name;
            work_is = refl;
            left = refl;
            over = refl;
            outcomes = c.in_ok-first_outcomes.ensures ∙ ap (map first_outcome) c.deref.ensures.value;
            waiting = refl;
          }));
      name = (let n = at.invariant.name in omega (arith, n, length-append at.yielded (x ∷ [])));
    }
