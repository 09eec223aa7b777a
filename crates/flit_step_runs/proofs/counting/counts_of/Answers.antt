use Rattle.std.proofs.Common.{◌≡◌, ◌≤◌, ◌++◌, List, ap, subst, length, ◌+◌, arith}
use Rattle.std.specs.List.{flat_map, range_with_len}
use Rattle.flit_model.specs.declared.calls.Item.{Item}
use Rattle.flit_step_reports.specs.StepReports.{items_in}
use Rattle.flit_step_runs.specs.Counts.{AreCountsOf}
use Rattle.flit_step_runs.specs.Tellings.{told_items}
use Rattle.flit_step_runs.proofs.CountedLines.{counts_worker, counts_told}
use Rattle.flit_step_runs.proofs.ItemLaws.{items_held}
use Rattle.flit_step_runs.proofs.counting.counts_of.Goals as goal

pub items-requires : goal.items-requires
items-requires g c =
    let long = c.requires.2.long in
    let workers = ap (λ h. h.layout.workers) c.head-workers.ensures.is in
    let same = ap (λ h. h.layout.workers) c.requires.1.head in
    let within = c.loop-before-test.true in
    (omega arith, omega (arith, long, workers, same, within))

pub with_items-counts-requires-clause-worker : goal.with_items-counts-requires-clause-worker
with_items-counts-requires-clause-worker g c =
    let long = c.requires.2.long in
    let workers = ap (λ h. h.layout.workers) c.head-workers.ensures.is in
    let same = ap (λ h. h.layout.workers) c.requires.1.head in
    let within = c.loop-before-test.true in
    (omega arith, omega (arith, long, workers, same, within))

pub with_items-counts-requires-clause-few : goal.with_items-counts-requires-clause-few
with_items-counts-requires-clause-few g c =
    let workers = ap (λ h. h.layout.workers) c.head-workers.ensures.is in
    let same = ap (λ h. h.layout.workers) c.requires.1.head in
    let within = c.loop-before-test.true in
    let worker = c.loop-before.before + 1 in
    let most : worker ≤ c.requires.0.head.layout.workers = omega (arith, workers, same, within) in
    let few = c.requires.2.few worker (omega arith) most in
    let long = ap length (items_held c.args.sched.now.run c.requires.0 worker c.items.result.now c.requires.2 (omega arith) most c.items.ensures) in
    omega (arith, few, long)

pub with_items-counts-requires-clause-counts : goal.with_items-counts-requires-clause-counts
with_items-counts-requires-clause-counts g c = (_, c.loop-before.invariant.counts c.requires.0 c.requires.1 c.requires.2)

pub with_items-counts-requires-clause-room : goal.with_items-counts-requires-clause-room
with_items-counts-requires-clause-room g c =
    let workers = ap (λ h. h.layout.workers) c.head-workers.ensures.is in
    let same = ap (λ h. h.layout.workers) c.requires.1.head in
    let within = c.loop-before-test.true in
    let worker = c.loop-before.before + 1 in
    let reached : worker ≤ c.requires.0.head.layout.workers = omega (arith, workers, same, within) in
    let few = c.requires.2.few worker (omega arith) reached in
    let long = ap length (items_held c.args.sched.now.run c.requires.0 worker c.items.result.now c.requires.2 (omega arith) reached c.items.ensures) in
    let most = c.head-workers.ensures.accepted.most_worker in
    let calls = c.loop-before.invariant.calls in
    omega (arith, few, long, within, most, calls)

pub loop-before-preserved : goal.loop-before-preserved
loop-before-preserved g c =
    let r = c.args.sched.now.run in
    let workers = ap (λ h. h.layout.workers) c.head-workers.ensures.is in
    let within = c.loop-before-test.true in
    let worker = c.loop-before.before + 1 in
    let same = ap (λ h. h.layout.workers) c.requires.1.head in
    let reached : worker ≤ c.requires.0.head.layout.workers = omega (arith, workers, same, within) in
    let few = c.requires.2.few worker (omega arith) reached in
    let long = ap length (items_held r c.requires.0 worker c.items.result.now c.requires.2 (omega arith) reached c.items.ensures) in
    let calls = c.loop-before.invariant.calls in
    let more = c.with_items-counts.ensures.calls in
    record {
      counts = λ t shows holds.
          let here = ap (λ h. h.layout.workers) shows.head in
          let most : worker ≤ t.head.layout.workers = omega (arith, workers, here, within) in
          counts_worker (λ v. told_items r v 0 (items_in t v)) c.loop-before.before _
          (subst (λ (xs : List Item). AreCountsOf c.with_items-counts.result
          (flat_map (λ v. told_items r v 0 (items_in t v)) (range_with_len 1 c.loop-before.before) ++ told_items r worker 0 xs))
          (items_held r t worker c.items.result.now holds (omega arith) most c.items.ensures)
          (c.with_items-counts.ensures.counts _ (c.loop-before.invariant.counts t shows holds)));
      calls = omega (arith, few, long, calls, more);
    }

pub returns : goal.returns
returns g c = λ t shows holds right.
    let workers = ap (λ h. h.layout.workers) c.head-workers.ensures.is in
    let here = ap (λ h. h.layout.workers) shows.head in
    let low = c.loop-before-test.false in
    let high = c.loop-before.auto.before-end in
    let is : c.loop-before.before ≡ t.head.layout.workers = omega (arith, workers, here, low, high) in
    counts_told c.args.sched.now.run t right c.loop-before.counts
    (subst (λ n. AreCountsOf c.loop-before.counts (flat_map (λ v. told_items c.args.sched.now.run v 0 (items_in t v)) (range_with_len 1 n))) is
    (c.loop-before.invariant.counts t shows holds))
