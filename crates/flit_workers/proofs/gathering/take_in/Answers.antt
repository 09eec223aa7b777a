use Rattle.std.proofs.Common.{◌≡◌, ◌++◌, ◌∷◌, [], ap, sym, ◌∙◌, subst, length, arith, append_assoc}
use Rattle.std.specs.Vec.Iter.{into_iter_items}
use Rattle.flit_table.specs.Passes.{BelongsTo, HasTaken}
use Rattle.flit_workers.proofs.TakenIn.{taken_next, pushed, next_of}
use Rattle.flit_workers.proofs.gathering.take_in.Goals as goal

pub join-requires-clause-other : goal.join-requires-clause-other
join-requires-clause-other g c =
    let at = c.loop-end in
    let x = c.in-Some.end in
    let rest = into_iter_items c.next.new.self in
    let steps : into_iter_items at.end-iterator ≡ x ∷ rest = c.in-Some.ensures.steps.0 in
    let came : into_iter_items c.into_iter-end-iterator.result ≡ c.args.ends.items = c.into_iter-end-iterator.ensures.into_iter_gives.0 in
    let all : at.yielded ++ x ∷ rest ≡ c.args.ends.items = ap (λ l. at.yielded ++ l) (sym steps) ∙ at.invariant.0 ∙ came in
    subst (BelongsTo g.S.Structure.meaning c.args.running.now) (sym c.taken_apart-other.ensures.pass)
    (next_of (λ e. BelongsTo g.S.Structure.meaning c.args.running.now e.pass) at.yielded x rest c.args.ends.items all c.requires.ends)

pub loop-end-preserved : goal.loop-end-preserved
loop-end-preserved g c =
    let at = c.loop-end in
    let i = at.invariant in
    let x = c.in-Some.end in
    let steps : into_iter_items at.end-iterator ≡ x ∷ into_iter_items c.next.new.self = c.in-Some.ensures.steps.0 in
    let M = g.S.Structure.meaning c.args.running.now.origin.structure.value in
    let e = c.taken_apart-other.ensures in (
      append_assoc at.yielded (x ∷ []) _ ∙ rw (← steps) i.0,
      (let was = i.1 in let gone = c.in-Some.ensures.steps.1 in let short = ap length steps in omega arith),
      (let was = i.2 in let short = ap length steps in let p = e.len.0 in let q = e.capacity.0 in omega arith),
      (let was = i.3 in let short = ap length steps in let p = e.len.1 in let q = e.capacity.1 in omega arith),
      c.join.ensures.pass,
      taken_next M at.yielded x c.args.pass.now at.pass c.join.new.pass i.4.belongs.names i.5
          (subst (λ p. HasTaken M p at.pass c.join.new.pass) e.pass c.join.ensures.taken),
      pushed (λ y. y.work) _ _ _ at.yielded x i.6 e.works,
      pushed (λ y. y.outcomes) _ _ _ at.yielded x i.7 e.outcomes,
    )
