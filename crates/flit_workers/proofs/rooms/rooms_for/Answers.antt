use Rattle.std.proofs.Common.{◌≡◌, ◌++◌, ◌∷◌, [], ap, ◌∙◌, append_assoc, map, subst, sym, List, length, arith}
use Rattle.std.proofs.lemmas.List.{map-append}
use Rattle.std.specs.List.{AllByRecursion}
use Rattle.std.specs.Vec.Iter.{into_iter_items}
use Rattle.flit_model.proofs.Elements.{all-append}
use Rattle.flit_model.specs.declared.calls.Item.{Item}
use Rattle.flit_workers.specs.Works.{calls_in}
use Rattle.flit_workers.specs.declared.rooms.Room.{Room}
use Rattle.flit_workers.specs.Ends.{IsRoom}
use Rattle.flit_workers.proofs.rooms.rooms_for.Goals as goal

pub loop-work-preserved : goal.loop-work-preserved
loop-work-preserved c =
    let at = c.loop-work in
    let x = c.in-Some.work in
    let steps : into_iter_items at.work-iterator ≡ x ∷ into_iter_items c.next.new.self = c.in-Some.ensures.steps.0 in (
      append_assoc at.yielded (x ∷ []) _ ∙ rw (← steps) at.invariant.0,
      (let was = at.invariant.1 in let gone = c.in-Some.ensures.steps.1 in let short = ap length steps in omega arith),
      ap (map (λ (r : Room). r.work)) c.in_ok-push.ensures.items ∙ map-append (λ (r : Room). r.work) at.rooms.items _ ∙ ap (λ l. l ++ x ∷ []) at.invariant.2,
      subst (AllByRecursion IsRoom) (sym c.in_ok-push.ensures.items) (all-append IsRoom at.rooms.items (_ ∷ []) at.invariant.3 (
        record {
          none_yet = c.in_ok-outcomes.ensures.items;
          room = (let count = c.count_calls.ensures in let same = ap (λ (l : List Item). length (calls_in l)) c.deref.ensures.value in
              let fits = c.in_ok-outcomes.ensures.capacity in omega (arith, count, same, fits));
        },
        tt,
      )),
    )
