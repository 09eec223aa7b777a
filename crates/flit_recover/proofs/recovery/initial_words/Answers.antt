use Rattle.std.proofs.Common.{ℕ, ◌++◌, ◌∷◌, [], List, map, ap, sym, ◌∙◌, arith}
use Rattle.std.specs.List.{range_with_len}
use Rattle.std.proofs.lemmas.List.FromFn.{map-range_with_len_more}
use Rattle.flit_words.specs.Layouts.{initial_of}
use Rattle.flit_recover.proofs.recovery.initial_words.Goals as goal

pub loop-word-preserved : goal.loop-word-preserved
loop-word-preserved c =
    let word = c.loop-word.word in
    let pushed = c.push_reserved.ensures in (
      (let was = c.loop-word.invariant.0 in let more = pushed.len in omega (arith, was, more)),
      (let was = c.loop-word.invariant.1 in let same = pushed.capacity in omega (arith, was, same)),
      pushed.items
          ∙ ap (λ (ws : List ℕ). ws ++ c.from.result ∷ []) c.loop-word.invariant.2
          ∙ ap (λ (w : ℕ). map (initial_of c.args.layout.now.kind) (range_with_len 0 word) ++ w ∷ []) (c.from.ensures ∙ c.initial.ensures)
          ∙ sym (map-range_with_len_more (initial_of c.args.layout.now.kind) 0 word word (omega arith)),
    )
