use Rattle.std.proofs.Common.{◌++◌, List, length, refl, sym, ap, subst, arith}
use Rattle.std.proofs.lemmas.List.{take_all}
use Rattle.flit_model.specs.declared.calls.Item.{Item}
use Rattle.flit_step_runs.specs.Counts.{AreCountsOf}
use Rattle.flit_step_runs.specs.Tellings.{told_items}
use Rattle.flit_step_runs.proofs.ItemLaws.{counts_item}
use Rattle.flit_step_runs.proofs.ToldLaws.{no_more}
use Rattle.flit_step_runs.proofs.counting.with_items.Goals as goal

pub loop-line-init : goal.loop-line-init
loop-line-init g c = record {
  counts = λ lines h. subst (AreCountsOf c.args.counts) (sym (no_more lines)) h;
  calls = omega arith;
  item = refl;
}

pub with_item-counted-requires-clause-item : goal.with_item-counted-requires-clause-item
with_item-counted-requires-clause-item g c = λ a p b at.
    let long = ap length (c.requires.items a p b at) in
    let at_line = c.loop-line.invariant.item in
    let below = c.loop-line-test.true in
    omega (arith, long, at_line, below)

pub with_item-counted-requires-clause-counts : goal.with_item-counted-requires-clause-counts
with_item-counted-requires-clause-counts g c = (_, c.loop-line.invariant.counts c.requires.counts.0 c.requires.counts.1)

pub with_item-counted-requires-clause-room : goal.with_item-counted-requires-clause-room
with_item-counted-requires-clause-room g c =
    let room = c.requires.room in
    let calls = c.loop-line.invariant.calls in
    let at_line = c.loop-line.invariant.item in
    let below = c.loop-line-test.true in
    omega (arith, room, calls, at_line, below)

pub overflow_add-item : goal.overflow_add-item
overflow_add-item g c =
    let few = c.requires.few in
    let at_line = c.loop-line.invariant.item in
    let below = c.loop-line-test.true in
    omega (arith, few, at_line, below)

pub loop-line-preserved : goal.loop-line-preserved
loop-line-preserved g c =
    let i = c.loop-line.invariant in
    record {
      counts = λ lines h. counts_item c.args.sched.now.run c.args.worker c.loop-line.item c.loop-line.line-index c.args.items.now _ _ lines i.item
          c.loop-line-test.true (c.with_item-counted.ensures.counts _ (i.counts lines h));
      calls = let calls = i.calls in let more = c.with_item-counted.ensures.calls in omega (arith, calls, more);
      item = let same = i.item in omega (arith, same);
    }

pub returns-clause-counts : goal.returns-clause-counts
returns-clause-counts g c = λ lines h.
    let below = c.loop-line-test.false in
    subst (λ (xs : List Item). AreCountsOf c.loop-line.counted (lines ++ told_items c.args.sched.now.run c.args.worker 0 xs))
    (take_all c.loop-line.line-index c.args.items.now (omega (arith, below))) (c.loop-line.invariant.counts lines h)

pub returns-clause-calls : goal.returns-clause-calls
returns-clause-calls g c =
    let calls = c.loop-line.invariant.calls in
    let at_line = c.loop-line.invariant.item in
    let high = c.loop-line.auto.line-index-end in
    omega (arith, calls, at_line, high)
