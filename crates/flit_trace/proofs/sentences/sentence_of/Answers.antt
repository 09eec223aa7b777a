use Rattle.std.proofs.Common.{◌≡◌, get_or, arith}
use Rattle.std.proofs.lemmas.Slice.Eq.{slice_eq-Decides}
use Rattle.std.proofs.lemmas.Bool.Decides.{Decides-eqb, not_from_Decides}
use Rattle.flit_trace.proofs.SentenceRefusals.{IsOtherLetter, none_unless, no_b, no_e, no_f, no_r, no_t, no_v, no_other}
use Rattle.flit_trace.specs.declared.sentences.Sentence.TheVariants.{Begin, End}
use Rattle.flit_trace.proofs.sentences.sentence_of.Goals as goal

pub returns-in_err-number-in-102-clause-none : goal.returns-in_err-number-in-102-clause-none
returns-in_err-number-in-102-clause-none c =
    let letter : get_or c.args.line.now 0 0 ≡ 102 = grind arith in
    rw c.from_residual-in_err-number-in-102.ensures (no_f c.args.line.now letter c.in_err-number-in-102.ensures.none)

pub returns-in_err-rows-in-114-clause-none : goal.returns-in_err-rows-in-114-clause-none
returns-in_err-rows-in-114-clause-none c =
    let letter : get_or c.args.line.now 0 0 ≡ 114 = grind arith in
    rw c.from_residual-in_err-rows-in-114.ensures (no_r c.args.line.now letter c.in_err-rows-in-114.ensures.none)

pub returns-in_err-worker-in-116-clause-none : goal.returns-in_err-worker-in-116-clause-none
returns-in_err-worker-in-116-clause-none c =
    let letter : get_or c.args.line.now 0 0 ≡ 116 = grind arith in
    rw c.from_residual-in_err-worker-in-116.ensures (no_t c.args.line.now letter c.in_err-worker-in-116.ensures.none)

pub returns-in_err-limit-in-118-clause-none : goal.returns-in_err-limit-in-118-clause-none
returns-in_err-limit-in-118-clause-none c =
    let letter : get_or c.args.line.now 0 0 ≡ 118 = grind arith in
    rw c.from_residual-in_err-limit-in-118.ensures (no_v c.args.line.now letter c.in_err-limit-in-118.ensures.none)

pub returns-in-98-clause-none : goal.returns-in-98-clause-none
returns-in-98-clause-none c =
    let letter : get_or c.args.line.now 0 0 ≡ 98 = grind arith in
    rw c.then_some.ensures (none_unless c.eq.result Begin (λ other.
    no_b c.args.line.now letter (not_from_Decides _ (slice_eq-Decides Decides-eqb _ _ _ c.eq.ensures) other)))

pub returns-in-101-clause-none : goal.returns-in-101-clause-none
returns-in-101-clause-none c =
    let letter : get_or c.args.line.now 0 0 ≡ 101 = grind arith in
    rw c.then_some-in-101.ensures (none_unless c.eq-in-101.result End (λ other.
    no_e c.args.line.now letter (not_from_Decides _ (slice_eq-Decides Decides-eqb _ _ _ c.eq-in-101.ensures) other)))

pub returns-in_default-clause-none : goal.returns-in_default-clause-none
returns-in_default-clause-none c =
    let other : IsOtherLetter (get_or c.args.line.now 0 0) = record {
      letter = grind arith;
      not_a = grind arith;
      not_b = grind arith;
      not_e = grind arith;
      not_f = grind arith;
      not_p = grind arith;
      not_r = grind arith;
      not_s = grind arith;
      not_t = grind arith;
      not_v = grind arith;
      not_w = grind arith;
    } in
    no_other c.args.line.now other
