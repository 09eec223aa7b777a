use Rattle.std.proofs.Common.{sym, arith, eqb, eqb-true}
use Rattle.std.proofs.lemmas.Bool.{ltb-true, ltb-false}
use Rattle.flit_sched.specs.Settled.{WaitsAt}
use Rattle.flit_sched.proofs.LastLaws.{none_last, found_last, not_waiting, other_waiting, if_false, if_true}
use Rattle.flit_sched.proofs.settling.waiting_at.Goals as goal

pub returns-in_err-at-clause-none : goal.returns-in_err-at-clause-none
returns-in_err-at-clause-none g c =
    rw c.from_residual.ensures
    (none_last c.args.waiters.now 1 c.args.word c.args.players.now c.requires.last (λ n p v is lt at e. absurd (c.in_err-at.ensures (omega (arith, is)))))

pub returns-in_err-get-clause-none : goal.returns-in_err-get-clause-none
returns-in_err-get-clause-none g c =
    let a = c.in_ok-at.ensures in
    let out = ltb-false _ _ (sym c.in_err-get.ensures.lookup.0) in
    rw c.from_residual-in_err-get.ensures
    (none_last c.args.waiters.now 1 c.args.word c.args.players.now c.requires.last (λ n p v is lt at e. absurd (omega (arith, is, lt, out, a))))

pub returns-in_err-waiting-clause-none : goal.returns-in_err-waiting-clause-none
returns-in_err-waiting-clause-none g c =
    let a = c.in_ok-at.ensures in
    let there = c.in_ok-get.ensures.lookup in
    rw c.from_residual-in_err-waiting.ensures
    (none_last c.args.waiters.now 1 c.args.word c.args.players.now c.requires.last
    (λ n p v is lt at e same. not_waiting c.args.players.now c.in_ok-at.at n c.in_ok-get.field-0.now p v (omega (arith, is, a)) lt
    there.1 at c.in_err-waiting.was e))

pub returns-clause-none : goal.returns-clause-none
returns-clause-none g c =
    let a = c.in_ok-at.ensures in
    let there = c.in_ok-get.ensures.lookup in
    rw c.then_some.ensures
    (if_false (eqb c.in_ok-waiting.waiting.word c.args.word) _
    (λ apart. none_last c.args.waiters.now 1 c.args.word c.args.players.now c.requires.last
    (λ n p v is lt at e. other_waiting c.args.players.now c.in_ok-at.at n c.in_ok-get.field-0.now p c.in_ok-waiting.waiting v c.args.word (omega (arith, is, a))
    lt there.1 at c.in_ok-waiting.was e apart)))

pub returns-clause-some : goal.returns-clause-some
returns-clause-some g c =
    let a = c.in_ok-at.ensures in
    let there = c.in_ok-get.ensures.lookup in
    rw c.then_some.ensures
    (if_true (λ r. WaitsAt c.args.word c.args.players.now r.0 r.1) (eqb c.in_ok-waiting.waiting.word c.args.word) (c.in_ok-at.at, c.in_ok-waiting.waiting.entry)
    (λ same. found_last c.args.waiters.now 1 c.args.word c.in_ok-at.at c.args.players.now c.in_ok-get.field-0.now c.in_ok-waiting.waiting c.requires.last
    (omega (arith, a)) (ltb-true _ _ (sym there.0)) there.1 c.in_ok-waiting.was (eqb-true _ _ same)))
