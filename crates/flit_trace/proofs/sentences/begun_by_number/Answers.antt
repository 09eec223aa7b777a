use Rattle.std.proofs.Common.{◌≡◌, ◌≢◌, ◌≤◌, get_or, length, arith, refl}
use Rattle.flit_trace.proofs.SentenceRefusals.{NoCallAt, no_worker, no_call_at, only_i, only_r, only_c, only_g, only_e, only_none, first_of_none, both_none}
use Rattle.flit_trace.proofs.sentences.begun_by_number.Goals as goal

pub returns-in_err-worker-clause-none : goal.returns-in_err-worker-clause-none
returns-in_err-worker-clause-none c =
    rw c.from_residual-in_err-worker.ensures (no_worker c.args.line.now c.in_ok-digits.digits.now c.in_ok-digits.call.now c.requires
    c.in_ok-digits.ensures.some c.in_ok-digits.ensures.first c.in_err-worker.ensures.none)

pub returns-in_err-first-clause-none : goal.returns-in_err-first-clause-none
returns-in_err-first-clause-none c =
    let call = c.in_ok-digits.call.now in
    let short : length call ≤ 0 = grind arith in
    rw c.from_residual-in_err-first.ensures (no_call_at c.args.line.now c.in_ok-digits.digits.now call 0 c.requires
    c.in_ok-digits.ensures.some c.in_ok-digits.ensures.first (first_of_none call short) (only_none call))

pub returns-in_err-key-in-114-clause-none : goal.returns-in_err-key-in-114-clause-none
returns-in_err-key-in-114-clause-none c =
    let call = c.in_ok-digits.call.now in
    let letter : get_or call 0 0 ≡ 114 = grind arith in
    rw c.from_residual-in_err-key-in-114.ensures (no_call_at c.args.line.now c.in_ok-digits.digits.now call 114 c.requires
    c.in_ok-digits.ensures.some c.in_ok-digits.ensures.first letter (only_r call c.in_err-key-in-114.ensures.none))

pub returns-in_err-key-in-99-clause-none : goal.returns-in_err-key-in-99-clause-none
returns-in_err-key-in-99-clause-none c =
    let call = c.in_ok-digits.call.now in
    let letter : get_or call 0 0 ≡ 99 = grind arith in
    rw c.from_residual-in_err-key-in-99.ensures (no_call_at c.args.line.now c.in_ok-digits.digits.now call 99 c.requires
    c.in_ok-digits.ensures.some c.in_ok-digits.ensures.first letter (only_c call c.in_err-key-in-99.ensures.none))

pub returns-in_err-key-in-103-clause-none : goal.returns-in_err-key-in-103-clause-none
returns-in_err-key-in-103-clause-none c =
    let call = c.in_ok-digits.call.now in
    let letter : get_or call 0 0 ≡ 103 = grind arith in
    rw c.from_residual-in_err-key-in-103.ensures (no_call_at c.args.line.now c.in_ok-digits.digits.now call 103 c.requires
    c.in_ok-digits.ensures.some c.in_ok-digits.ensures.first letter (only_g call c.in_err-key-in-103.ensures.none))

pub returns-in_err-word-in-101-clause-none : goal.returns-in_err-word-in-101-clause-none
returns-in_err-word-in-101-clause-none c =
    let call = c.in_ok-digits.call.now in
    let letter : get_or call 0 0 ≡ 101 = grind arith in
    rw c.from_residual-in_err-word-in-101.ensures (no_call_at c.args.line.now c.in_ok-digits.digits.now call 101 c.requires
    c.in_ok-digits.ensures.some c.in_ok-digits.ensures.first letter (only_e call c.in_err-word-in-101.ensures.none))

pub returns-in-105-clause-none : goal.returns-in-105-clause-none
returns-in-105-clause-none c =
    let call = c.in_ok-digits.call.now in
    let letter : get_or call 0 0 ≡ 105 = grind arith in
    both_none c.insert_of.result (λ one two. no_call_at c.args.line.now c.in_ok-digits.digits.now call 105 c.requires
    c.in_ok-digits.ensures.some c.in_ok-digits.ensures.first letter (only_i call one two)) c.insert_of.ensures.one c.insert_of.ensures.two

pub returns-in_default-clause-none : goal.returns-in_default-clause-none
returns-in_default-clause-none c =
    let call = c.in_ok-digits.call.now in
    let not_i : get_or call 0 0 ≢ 105 = grind arith in
    let not_r : get_or call 0 0 ≢ 114 = grind arith in
    let not_c : get_or call 0 0 ≢ 99 = grind arith in
    let not_g : get_or call 0 0 ≢ 103 = grind arith in
    let not_e : get_or call 0 0 ≢ 101 = grind arith in
    let none : NoCallAt call (get_or call 0 0) = record {
      both = λ e. absurd (not_i e);
      insert = λ e. absurd (not_i e);
      remove = λ e. absurd (not_r e);
      contains_key = λ e. absurd (not_c e);
      get = λ e. absurd (not_g e);
      evict = λ e. absurd (not_e e);
    } in
    no_call_at c.args.line.now c.in_ok-digits.digits.now call (get_or call 0 0) c.requires
    c.in_ok-digits.ensures.some c.in_ok-digits.ensures.first refl none
