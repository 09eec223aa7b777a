use Rattle.std.proofs.Common.{ℕ, List, map, rules, ap, ◌∙◌}
use Rattle.std.proofs.lemmas.List.Sorted.{answers_always}
use Rattle.flit_report.specs.declared.content.Line.{Line}
use Rattle.flit_step_runs.proofs.lines.in_line_order.Goals as goal

pub returns : goal.returns
returns c =
    let key : ℕ × Line → ℕ = λ l. l.0 in
    record {
      sorted = c.sort_by_key.new.self.items;
      rises = c.in_ok-sort_by_key.ensures.sorted key (answers_always _ _ _ (λ f a r h k. search rules));
      stable = c.sort_by_key.ensures.stable key (answers_always _ _ _ (λ f a r h k. search rules));
      lines_are = c.in_ok-lines.ensures ∙ ap (λ (ls : List (ℕ × Line)). map (λ l. l.1) ls) c.deref.ensures.value;
    }
