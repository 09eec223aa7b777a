use Rattle.std.proofs.Common.{◌≡◌, ◌+◌, ◌∙◌, ℕ, sym, ap, subst, arith, string_bytes}
use Rattle.flit_generator.specs.Generator.{next_state, call_at}
use Rattle.flit_generator.proofs.CallLines.{HasWritten, written_more, call_is}
use Rattle.flit_generator.proofs.texts.write_calls.Goals as goal

pub loop-number-preserved : goal.loop-number-preserved
loop-number-preserved c =
    let i = c.loop-number.number in
    let x = c.loop-number.state in
    let call : c.call_of.result ≡ call_at c.args.keys c.args.workers i x =
    call_is _ _ i x _ _ _ _ _ _ c.next_state-named.ensures.is c.next_state-keyed.ensures.is c.drawn.ensures.is c.drawn-in-loop-number.ensures.is
    c.key_of-key.ensures c.call_of.ensures in
    let keyed : c.next_state-keyed.result ≡ next_state (next_state x) = c.next_state-keyed.ensures.is ∙ ap next_state c.next_state-named.ensures.is in
    let line = rw call at c.in_ok-write_call.ensures in
    subst (λ (state : ℕ). HasWritten c.args.keys c.args.workers c.args.seed c.args.calls (string_bytes c.args.out.now) (i + 1) state
    (string_bytes c.write_call.new.out)) (sym keyed)
    (written_more _ _ _ _ _ i x _ _ (omega arith) c.loop-number.invariant line)
