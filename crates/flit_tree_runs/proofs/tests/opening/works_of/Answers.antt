use Rattle.std.proofs.Common.{◌≡◌, ◌≤◌, ◌+◌, ◌*◌, [], ◌∷◌, ◌++◌, length, map, sym, ◌∙◌, ap, subst, vec_len, arith}
use Rattle.std.proofs.lemmas.Grind.{common_steps}
use Rattle.std.specs.List.{AllByRecursion}
use Rattle.std.proofs.lemmas.List.{length-append}
use Rattle.flit_model.proofs.Elements.{all-append}
use Rattle.flit_model.specs.declared.calls.Work.{Work}
use Rattle.flit_sched.specs.Openings.{IsRightItem, item_count}
use Rattle.flit_tree_runs.proofs.Works.{few_more, map_more}
use Rattle.flit_tree_runs.proofs.tests.opening.works_of.Goals as goal

pub loop-before-preserved : goal.loop-before-preserved
loop-before-preserved g c =
    let ws = c.loop-before.works.items in
    let w = c.in_ok-work.work in
    let was = c.loop-before.invariant in
    let Right : Work → Type 0 = λ (x : Work). AllByRecursion (IsRightItem c.args.layout.now) x.items.items in
    let works : c.push-in-loop-before.new.self.items ≡ ws ++ w ∷ [] = c.in_ok-push-2.ensures.items in
    let same : vec_len w.items ≡ length w.items.items = grind (arith, common_steps) in
    let counts : c.push.new.self.items ≡ c.loop-before.counts.items ++ length w.items.items ∷ [] =
    c.in_ok-push.ensures.items ∙ ap (λ n. c.loop-before.counts.items ++ n ∷ []) (c.len.ensures ∙ same) in (
      ap length works ∙ length-append ws (w ∷ []) ∙ ap (λ n. n + 1) was.0,
      subst (AllByRecursion Right) (sym works) (all-append Right ws (w ∷ []) was.1 (c.in_ok-work.ensures.right, tt)),
      subst (λ xs. item_count xs ≤ 100 * (c.loop-before.before + 1)) (sym works) (few_more ws w c.loop-before.before was.2 c.in_ok-work.ensures.few),
      ap (λ xs. map (λ (x : Work). length x.items.items) xs) works ∙ map_more ws w c.loop-before.counts.items was.3 ∙ sym counts,
    )
