use Rattle.std.proofs.Common.{◌≡◌, ap, ◌∙◌, sym, refl, Some, not, cond, ◌++◌, ◌∷◌, []}
use Rattle.std.proofs.lemmas.Bool.{false≢true}
use Rattle.flit_sched.specs.Settled.{raised, nothing_waits}
use Rattle.flit_sched.proofs.FoundLaws.{settle_one, some_waiting, waits_all}
use Rattle.flit_sched.proofs.settling.settle.Goals as goal

pub returns-in_default-waiting_at-clause-settles : goal.returns-in_default-waiting_at-clause-settles
returns-in_default-waiting_at-clause-settles g c =
    nothing_waits c.in-Some.word (sym c.raises.ensures ∙ c.in-Some.is)
    (rw c.deref.ensures.value at c.in_default-waiting_at.ensures.none)
    (record { players_same = refl; settled_same = refl; values_same = refl })

pub unreachable-requires : goal.unreachable-requires
unreachable-requires g c =
    let w = rw c.deref.ensures.value at c.in-Some-waiting_at.ensures.some in
    let r : raised c.args.event c.args.answer ≡ Some c.in-Some.word = sym c.raises.ensures ∙ c.in-Some.is in
    let lt = c.requires.room (λ e. cc) (some_waiting c.in-Some.word c.args.players.now.items c.in-Some-waiting_at.at c.in-Some-waiting_at.entry w) in
    false≢true (sym (c.is_err.ensures.negation ∙ ap not c.if-is_err.true) ∙ c.push.ensures.succeeds lt)

pub change-requires-clause-has : goal.change-requires-clause-has
change-requires-clause-has g c =
    waits_all _ c.in-Some.word c.args.players.now.items c.in-Some-waiting_at.at c.in-Some-waiting_at.entry
    (rw c.deref.ensures.value at c.in-Some-waiting_at.ensures.some) c.requires.has

pub returns-clause-settles : goal.returns-clause-settles
returns-clause-settles g c =
    let ok = c.is_err.ensures.negation ∙ ap not c.if-is_err.false in
    settle_one c.args.keys.now c.in-Some.word (raised c.args.event c.args.answer) c.args.players.now.items c.args.settled.now.items c.args.values.now.items
    c.in-Some-waiting_at.at c.in-Some-waiting_at.entry c.index_mut.result.now c.push.new.self.items c.change.new.values.items
    (sym c.raises.ensures ∙ c.in-Some.is) (rw c.deref.ensures.value at c.in-Some-waiting_at.ensures.some) c.index_mut.ensures.value
    (c.push.ensures.items ∙ ap (λ t. cond t (c.args.settled.now.items ++ c.in-Some-waiting_at.entry ∷ []) c.args.settled.now.items) ok)
    c.change.ensures
