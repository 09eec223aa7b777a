use Rattle.std.proofs.Common.{◌∙◌, ◌++◌, ◌+◌, map, ap, sym, refl, arith}
use Rattle.std.specs.List.{flat_map, range_with_len}
use Rattle.flit_run_runs.specs.Tellings.{numbered_calls, outcomes_at, calls_of_worker}
use Rattle.flit_run_runs.proofs.EachWorker.{outcomes_here}
use Rattle.flit_step_runs.proofs.ToldLaws.{worker_more}
use Rattle.flit_run_runs.proofs.lines.numbered_lines.Goals as goal

pub loop-before-preserved : goal.loop-before-preserved
loop-before-preserved c =
    let all = map (λ os. os.items) c.args.outcomes.now in
    let before = c.loop-before.before in
    let worker = before + 1 in
    let front = flat_map (calls_of_worker c.args.trace.now all) (range_with_len 1 before) in
    let workers = ap (λ h. h.layout.workers) c.head-workers.ensures.is in
    let within = c.loop-before-test.true in
    let each = c.requires in
    c.in_ok-push_calls.ensures ∙ ap (λ xs. xs ++ numbered_calls worker c.as_slice-own.result.now c.script.result) c.loop-before.invariant
    ∙ ap (λ os. front ++ numbered_calls worker os c.script.result)
    (c.as_slice-own.ensures.value ∙ ap (λ v. v.items) c.index-outcomes-before.is
    ∙ outcomes_here c.args.outcomes.now before worker _ refl (omega (arith, within, each, workers)))
    ∙ ap (λ s. front ++ numbered_calls worker (outcomes_at all worker) s) c.script.ensures
    ∙ sym (worker_more (calls_of_worker c.args.trace.now all) before)
