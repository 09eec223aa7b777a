use Rattle.std.proofs.Common.{◌≡◌, ℕ, List, length, ◌∙◌, ◌++◌, ◌∷◌, ◌+◌, [], append_assoc, refl, sym, ap, arith}
use Rattle.std.proofs.lemmas.List.{length-append}
use Rattle.flit_model.specs.declared.calls.Item.{Item}
use Rattle.flit_step_runs.specs.Tellings.{numbered_script, numbered_item}
use Rattle.flit_step_runs.proofs.ToldLaws.{script_more, script_longer, script_ended, no_more}
use Rattle.flit_step_runs.proofs.lines.push_script.Goals as goal

pub loop-line-init : goal.loop-line-init
loop-line-init g c = record {
  told = sym (no_more c.args.told.now.items);
  item = refl;
  rest = sym c.into_iter-line-iterator.ensures.into_iter_gives;
}

pub push_item-requires-clause-item : goal.push_item-requires-clause-item
push_item-requires-clause-item g c = λ a p b at.
    let i = c.loop-line.invariant in
    let long = c.requires.items a p b at in
    let at_line = i.item in
    let less = script_longer c.args.script c.loop-line.yielded c.loop-line.line-iterator c.next.new.self c.in-Some.line i.rest c.in-Some.ensures.steps in
    omega (arith, long, at_line, less)

pub overflow_add-item : goal.overflow_add-item
overflow_add-item g c =
    let i = c.loop-line.invariant in
    let few = c.requires.few in
    let at_line = i.item in
    let less = script_longer c.args.script c.loop-line.yielded c.loop-line.line-iterator c.next.new.self c.in-Some.line i.rest c.in-Some.ensures.steps in
    omega (arith, few, at_line, less)

pub loop-line-preserved : goal.loop-line-preserved
loop-line-preserved g c =
    let i = c.loop-line.invariant in
    let r = c.args.sched.now.run in
    let worker = c.args.worker in
    let front = c.args.told.now.items in
    let line = c.in-Some.line in
    let so_far : c.loop-line.item ≡ 0 + length c.loop-line.yielded = let same = i.item in omega (arith, same) in
    record {
      told = c.in_ok-push_item.ensures ∙ ap (λ xs. xs ++ numbered_item r line.0 worker c.loop-line.item line.1) i.told
          ∙ ap (λ n. (front ++ numbered_script r worker 0 c.loop-line.yielded) ++ numbered_item r line.0 worker n line.1) so_far
          ∙ append_assoc front (numbered_script r worker 0 c.loop-line.yielded) (numbered_item r line.0 worker (0 + length c.loop-line.yielded) line.1)
          ∙ ap (λ xs. front ++ xs) (sym (script_more r worker 0 c.loop-line.yielded line));
      item = let long = length-append c.loop-line.yielded (line ∷ []) in let same = i.item in omega (arith, long, same);
      rest = i.rest ∙ ap (λ (x : List (ℕ × Item)). c.loop-line.yielded ++ x) c.in-Some.ensures.steps
          ∙ sym (append_assoc c.loop-line.yielded (line ∷ []) c.next.new.self);
    }

pub returns : goal.returns
returns g c =
    let i = c.loop-line.invariant in
    i.told ∙ ap (λ xs. c.args.told.now.items ++ numbered_script c.args.sched.now.run c.args.worker 0 xs)
    (script_ended c.args.script c.loop-line.yielded c.loop-line.line-iterator i.rest c.in-None.ensures.steps.0)
