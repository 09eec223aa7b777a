use Rattle.std.proofs.Common.{ap, ◌∙◌, sym, subst, Some, slice_get}
use Rattle.flit_sched.specs.Seats.{seated, played}
use Rattle.flit_sched.specs.Starting.{MayBegin, IsNoted, IsNotedOf}
use Rattle.flit_sched.specs.Turns.{enters}
use Rattle.flit_sched.proofs.SeatLaws.{idle_at, item_there, keyed_next}
use Rattle.flit_sched.proofs.starting.enter.Goals as goal

pub noted_of-player-requires-clause-has : goal.noted_of-player-requires-clause-has
noted_of-player-requires-clause-has g c =
    let meaning = g.S.Structure.meaning c.args.structure.now in
    let p = c.args.player.now in
    let h = idle_at meaning p.worker.name p.worker.at (sym c.rests.ensures ∙ c.if-not-rests.false) in
    keyed_next meaning c.args.keys.now (seated meaning p.worker) c.index-item.result.now h.0 h.1
    (subst (λ o. MayBegin meaning c.args.keys.now (seated meaning p.worker) o)
    (item_there p.work.items.items p.over c.index-item.result.now c.requires.within c.index-item.ensures) c.requires.may)

pub begin-requires-clause-may : goal.begin-requires-clause-may
begin-requires-clause-may g c = λ hand call idle is.
    let p = c.args.player.now in
    let k = c.requires.may hand call idle (item_there p.work.items.items p.over c.index-item.result.now c.requires.within c.index-item.ensures ∙ ap Some is) in
    (k.0, k.1)

pub returns-clause-begun : goal.returns-clause-begun
returns-clause-begun g c =
    let meaning = g.S.Structure.meaning c.args.structure.now in
    let p = c.args.player.now in
    ap (λ w. record (played meaning p) { worker = w; noted = c.noted_of-player.result })
    (c.begin.ensures.begun
    ∙ ap (λ o. enters meaning (seated meaning p.worker) (seated meaning p.worker).doing o)
    (sym (item_there p.work.items.items p.over c.index-item.result.now c.requires.within c.index-item.ensures)))

pub returns-clause-noted : goal.returns-clause-noted
returns-clause-noted g c =
    let meaning = g.S.Structure.meaning c.args.structure.now in
    let p = c.args.player.now in
    let h = idle_at meaning p.worker.name p.worker.at (sym c.rests.ensures ∙ c.if-not-rests.false) in
    subst (λ d. IsNoted c.args.keys.now c.args.values.now d (slice_get p.work.items.items p.over) p.noted c.noted_of-player.result) (sym h.1)
    (subst (λ o. IsNotedOf c.args.keys.now c.args.values.now o p.noted c.noted_of-player.result)
    (sym (item_there p.work.items.items p.over c.index-item.result.now c.requires.within c.index-item.ensures)) c.noted_of-player.ensures)
