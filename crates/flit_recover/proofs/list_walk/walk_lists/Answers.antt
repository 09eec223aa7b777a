-- The chains that were walked are sound, so that all of them are those of a lawful image, and a damage comes behind them.
use Rattle.std.proofs.Common.{◌≡◌, ℕ, ◌+◌, List, length, refl, sym, ap, subst, arith}
use Rattle.std.proofs.lemmas.Result.{err_from_is_err_and}
use Rattle.flit_model.specs.Lists.{list_pairs}
use Rattle.flit_recover.proofs.ListWalking.{IsSwept, swept_none, swept_more, swept_all, swept_to_damage}
use Rattle.flit_recover.proofs.list_walk.walk_lists.Goals as goal

pub loop-head-init : goal.loop-head-init
loop-head-init c = record {
  swept = subst (IsSwept c.args.layout.now c.args.words.now 0) (sym c.in_ok-reached.ensures.rows) (swept_none c.args.layout.now c.args.words.now);
  marks = c.in_ok-reached.ensures.marks;
  counted = ap (λ (rows : List ℕ). length (list_pairs c.args.layout.now c.args.words.now rows)) (sym c.in_ok-reached.ensures.rows);
}

pub returns-in_err-count-clause-damage : goal.returns-in_err-count-clause-damage
returns-in_err-count-clause-damage c =
    let p = err_from_is_err_and c.from_residual-in_err-count.result c.from_residual-in_err-count.ensures.1 in
    rw (p.1, p.2) (λ some.
    let w = c.in_err-count.ensures.damage some in
    swept_to_damage c.args.layout.now c.args.words.now c.loop-head.head c.loop-head.reached.rows.items w.0 _ c.loop-head-test.true c.loop-head.invariant.swept
    w.1)

pub loop-head-preserved : goal.loop-head-preserved
loop-head-preserved c =
    let w = c.in_ok-count.ensures.rows in
    record {
      swept = swept_more c.args.layout.now c.args.words.now c.loop-head.head (c.loop-head.head + 1) c.loop-head.reached.rows.items
          c.walk_chain.new.reached.rows.items w.0 refl c.loop-head.invariant.swept w.1 w.2;
      marks = c.in_ok-count.ensures.marks;
      counted = c.in_ok-count.ensures.count;
    }

pub returns-clause-lawful : goal.returns-clause-lawful
returns-clause-lawful c =
    let l = c.args.layout.now in
    let all : c.loop-head.head ≡ l.buckets = omega arith in
    swept_all l c.args.words.now c.requires.chained c.loop-head.reached.rows.items c.requires.whole c.requires.untagged
    (subst (λ (n : ℕ). IsSwept l c.args.words.now n c.loop-head.reached.rows.items) all c.loop-head.invariant.swept)
