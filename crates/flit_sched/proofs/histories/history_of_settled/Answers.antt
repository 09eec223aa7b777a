use Rattle.std.proofs.Common.{◌≡◌, ◌≤◌, ◌++◌, drop, length, ap, ◌∙◌, subst, refl, arith}
use Rattle.flit_model.specs.Histories.{history_from}
use Rattle.flit_sched.specs.Histories.{front_at}
use Rattle.flit_sched.proofs.HistoryMerges.{left_start, left_on, merge_more, merge_end}
use Rattle.flit_sched.proofs.histories.history_of_settled.Goals as goal

pub loop-position-init : goal.loop-position-init
loop-position-init c = record {
  within = omega arith;
  left = left_start c.args.reads.now _ c.in_ok-sorted.ensures;
  so_far = ap (λ es. es ++ history_from 0 c.args.settled.now c.args.reads.now) c.in_ok-history.ensures.items;
}

pub loop-position-preserved : goal.loop-position-preserved
loop-position-preserved c =
    let same = c.deref.ensures.value in
    let behind = c.in_ok-next.ensures.behind in
    let entries = c.in_ok-next.ensures.entries in
    record {
      within = subst (λ rs. c.in_ok-next.next ≤ length rs) same c.in_ok-next.ensures.within;
      left = left_on _ _ _ c.loop-position.invariant.left _ _ refl (let e1 = same in cc);
      so_far = merge_more _ _ _ _ _ c.in_ok-sorted.ensures c.loop-position.invariant.left _ _ _ _ _ _ (omega arith) refl (let e1 = same in cc)
          c.in_ok-push.ensures.items c.loop-position.invariant.so_far;
    }

pub returns : goal.returns
returns c =
    let last : length c.args.settled.now ≡ c.loop-position.position = omega arith in
    merge_end _ _ _ _ _ c.in_ok-sorted.ensures c.loop-position.invariant.left _ _ _ (omega arith)
    (c.in_ok-push_reads_at.ensures.entries
    ∙ ap (λ rs. c.loop-position.history.items ++ front_at (length c.args.settled.now) (drop c.loop-position.next rs)) c.deref-2.ensures.value
    ∙ ap (λ n. c.loop-position.history.items ++ front_at n (drop c.loop-position.next c.in_ok-sorted.sorted.items)) last)
    c.loop-position.invariant.so_far
