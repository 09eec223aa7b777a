use Rattle.std.proofs.Common.{ℕ, rules, ap, ◌∙◌}
use Rattle.std.proofs.lemmas.List.Sorted.{answers_always}
use Rattle.flit_model.specs.declared.calls.Placed.{Placed}
use Rattle.flit_sched.specs.Histories.{placed_in_order}
use Rattle.flit_sched.proofs.ReadOrders.{sorted_reads_are}
use Rattle.flit_sched.proofs.histories.sorted_reads.Goals as goal

pub returns : goal.returns
returns c =
    let key : Placed → ℕ × ℕ × ℕ = λ r. (r.position, r.entry.worker, r.entry.number) in
    sorted_reads_are _ _
    (c.in_ok-sort_by_key.ensures.sorted key (answers_always _ _ _ (λ f a r g h. search rules)))
    (c.sort_by_key.ensures.stable key (answers_always _ _ _ (λ f a r g h. search rules)))
    ∙ ap placed_in_order c.in_ok-sorted.ensures.items
