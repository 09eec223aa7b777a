use Rattle.std.proofs.Common.{rules, refl, ◌≡◌, ◌+◌, ◌++◌, ◌∷◌, [], List, ap, sym, ◌∙◌, subst, length, map, arith, append_assoc, append-nil}
use Rattle.std.proofs.lemmas.List.{length-append}
use Rattle.std.specs.Vec.Iter.{into_iter_items}
use Rattle.flit_workers.specs.declared.rooms.Room.{Room}
use Rattle.flit_workers.specs.Ends.{IsRoom, AreReady}
use Rattle.flit_workers.proofs.Sharing.{Shares, shares_none, shares_more, shares_last, room_next, none_left}
use Rattle.flit_workers.proofs.running.hand_out.Goals as goal

pub loop-room-init : goal.loop-room-init
loop-room-init g c =
    let came : into_iter_items c.into_iter-room-iterator.result ≡ c.args.rooms.items = c.into_iter-room-iterator.ensures.into_iter_gives.0 in (
      refl,
      search rules,
      (let n = ap length came in let p = c.requires.len in let q = c.requires.capacity in omega arith),
      subst (λ es. Shares g.S.Structure.meaning c.args.running.now c.args.pass [] es c.args.pass c.names-left.result) (sym c.requires.ends)
          (shares_none g.S.Structure.meaning c.args.running.now c.args.pass c.names-left.result c.requires.pass.belongs c.requires.pass.free c.requires.calls
          c.names-left.ensures),
    )

pub loop-room-preserved : goal.loop-room-preserved
loop-room-preserved g c =
    let at = c.loop-room in
    let i = at.invariant in
    let x : Room = c.in-Some.room in
    let rest : List Room = into_iter_items c.next.new.self in
    let steps : into_iter_items at.room-iterator ≡ x ∷ rest = c.in-Some.ensures.steps.0 in
    let came : into_iter_items c.into_iter-room-iterator.result ≡ c.args.rooms.items = c.into_iter-room-iterator.ensures.into_iter_gives.0 in
    let all : at.yielded ++ x ∷ rest ≡ c.args.rooms.items = ap (λ l. at.yielded ++ l) (sym steps) ∙ i.0 ∙ came in
    let room : IsRoom x = room_next IsRoom at.yielded x rest c.args.rooms.items all c.requires.rooms in
    let e = c.split-rest.ensures in (
      append_assoc at.yielded (x ∷ []) _ ∙ rw (← steps) i.0,
      (let was = i.1 in let gone = c.in-Some.ensures.steps.1 in let short = ap length steps in omega arith),
      (let was = i.2 in let short = ap length steps in let p = c.push_reserved-in-loop-room.ensures.len in let q =
          c.push_reserved-in-loop-room.ensures.capacity in omega arith),
      shares_more g.S.Structure.meaning c.args.running.now c.args.pass at.yielded at.ends.items c.push_reserved-in-loop-room.new.self.items x at.pass
          c.split-rest.result c.split-rest.new.pass at.left i.3 room c.if-left-le1.false
          e.old e.keeps e.new e.gives c.push_reserved-in-loop-room.ensures.items,
    )

pub returns-then-left-le1 : goal.returns-then-left-le1
returns-then-left-le1 g c =
    let at = c.loop-room in
    let i = at.invariant in
    let M = g.S.Structure.meaning in
    let x : Room = c.in-Some.room in
    let rest : List Room = into_iter_items c.next.new.self in
    let steps : into_iter_items at.room-iterator ≡ x ∷ rest = c.in-Some.ensures.steps.0 in
    let came : into_iter_items c.into_iter-room-iterator.result ≡ c.args.rooms.items = c.into_iter-room-iterator.ensures.into_iter_gives.0 in
    let all : at.yielded ++ x ∷ rest ≡ c.args.rooms.items = ap (λ l. at.yielded ++ l) (sym steps) ∙ i.0 ∙ came in
    let room : IsRoom x = room_next IsRoom at.yielded x rest c.args.rooms.items all c.requires.rooms in
    let long : length at.yielded + length (x ∷ rest) ≡ length c.args.rooms.items = sym (length-append at.yielded (x ∷ rest)) ∙ ap length all in
    let gone : rest ≡ [] = none_left rest (let p = c.requires.names in let q = c.requires.pass.belongs.names in let r = i.3.count in let s =
    c.if-left-le1.true in let t = i.3.names in let u = i.3.held.names in let w = i.3.held.belongs.names in omega (arith, long)) in
    let whole : at.yielded ++ x ∷ [] ≡ c.args.rooms.items = ap (λ l. at.yielded ++ x ∷ l) (sym gone) ∙ all in
    subst (λ l. AreReady M c.args.running.now c.args.pass.held.seat.me.0 (map (λ r. r.work) l) c.push_reserved.new.self.items) whole
    (shares_last M c.args.running.now c.args.pass at.yielded at.ends.items c.push_reserved.new.self.items x at.pass at.left i.3 room c.if-left-le1.true
    c.push_reserved.ensures.items)

pub returns : goal.returns
returns g c =
    let at = c.loop-room in
    let i = at.invariant in
    let M = g.S.Structure.meaning in
    let gone : into_iter_items at.room-iterator ≡ [] = none_left (into_iter_items at.room-iterator) (sym i.1 ∙ c.in-None.ensures.steps.0) in
    let came : into_iter_items c.into_iter-room-iterator.result ≡ c.args.rooms.items = c.into_iter-room-iterator.ensures.into_iter_gives.0 in
    let whole : at.yielded ≡ c.args.rooms.items = sym (append-nil at.yielded) ∙ ap (λ l. at.yielded ++ l) (sym gone) ∙ i.0 ∙ came in
    subst (λ l. AreReady M c.args.running.now c.args.pass.held.seat.me.0 (map (λ r. r.work) l) at.ends.items) whole i.3.ready
