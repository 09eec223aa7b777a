use Rattle.std.proofs.Common.{◌≡◌, ◌∙◌, ◌++◌, ap, sym, length, ◌+◌, arith}
use Rattle.std.specs.List.{flat_map, range_with_len}
use Rattle.flit_trace.specs.SeenTraces.{script_at}
use Rattle.flit_step_runs.specs.Tellings.{numbered_script}
use Rattle.flit_step_runs.proofs.ToldLaws.{worker_more}
use Rattle.flit_step_runs.proofs.lines.numbered_lines.Goals as goal

pub push_script-requires-clause-worker : goal.push_script-requires-clause-worker
push_script-requires-clause-worker g c =
    let long = c.requires.long in
    let workers = ap (λ h. h.layout.workers) c.head-workers.ensures.is in
    let within = c.loop-before-test.true in
    (omega arith, omega (arith, long, workers, within))

pub push_script-requires-clause-items : goal.push_script-requires-clause-items
push_script-requires-clause-items g c = λ a p b at.
    let workers = ap (λ h. h.layout.workers) c.head-workers.ensures.is in
    let within = c.loop-before-test.true in
    c.requires.items (c.loop-before.before + 1) (record { least = omega arith; most = omega (arith, workers, within) }) a p b at ∙ ap length (sym c.script.ensures)

pub push_script-requires-clause-few : goal.push_script-requires-clause-few
push_script-requires-clause-few g c =
    let workers = ap (λ h. h.layout.workers) c.head-workers.ensures.is in
    let within = c.loop-before-test.true in
    let few = c.requires.few (c.loop-before.before + 1) (record { least = omega arith; most = omega (arith, workers, within) }) in
    let long = ap length c.script.ensures in
    omega (arith, few, long)

pub loop-before-preserved : goal.loop-before-preserved
loop-before-preserved g c =
    let r = c.args.sched.now.run in
    let script = script_at c.args.trace.now in
    let worker = c.loop-before.before + 1 in
    c.in_ok-push_script.ensures ∙ ap (λ xs. xs ++ numbered_script r worker 0 c.script.result) c.loop-before.invariant
    ∙ ap (λ s. flat_map (λ v. numbered_script r v 0 (script v)) (range_with_len 1 c.loop-before.before) ++ numbered_script r worker 0 s) c.script.ensures
    ∙ sym (worker_more (λ v. numbered_script r v 0 (script v)) c.loop-before.before)

pub returns : goal.returns
returns g c =
    let workers = ap (λ h. h.layout.workers) c.head-workers.ensures.is in
    let low = c.loop-before-test.false in
    let high = c.loop-before.auto.before-end in
    c.loop-before.invariant ∙ ap (λ n. flat_map (λ v. numbered_script c.args.sched.now.run v 0 (script_at c.args.trace.now v)) (range_with_len 1 n))
    (let is : c.loop-before.before ≡ c.args.trace.now.head.layout.workers = omega (arith, workers, low, high) in is)
